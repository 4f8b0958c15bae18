pub mod Scan
pub mod Scanned
