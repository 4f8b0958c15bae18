pub mod Bounds
pub mod Joined
