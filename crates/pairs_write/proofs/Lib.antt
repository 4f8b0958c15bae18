pub mod Encoding
pub mod Picking
pub mod Arranging
