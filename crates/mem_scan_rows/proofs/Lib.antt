pub mod Readings
pub mod Turns
