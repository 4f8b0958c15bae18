pub mod Pieces
pub mod Held
