pub mod Initiating
