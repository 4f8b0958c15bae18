pub mod StoredLaws
pub mod Storing
pub mod Blocks
