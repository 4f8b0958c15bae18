pub mod Running
pub mod Feeding
pub mod Inputs
