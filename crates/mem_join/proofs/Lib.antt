pub mod UploadBounds
pub mod Taking
pub mod Joining
pub mod PathRead
