pub mod Sweeping
pub mod Accepting
