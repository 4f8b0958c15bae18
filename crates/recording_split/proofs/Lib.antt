pub mod Splits
pub mod Holding
