pub mod Aborting
