pub mod Edits
pub mod Rows
pub mod Objects
pub mod Blocks
