pub mod Shift
pub mod UploadShift
