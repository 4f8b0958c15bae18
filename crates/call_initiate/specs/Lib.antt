pub mod Initiate
