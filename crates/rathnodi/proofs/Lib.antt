pub mod Exporting
pub mod Lines
