pub mod Region
pub mod Digests
