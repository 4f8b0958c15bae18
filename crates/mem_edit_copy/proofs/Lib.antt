pub mod Source
pub mod Restamping
pub mod Apart
pub mod Copying
