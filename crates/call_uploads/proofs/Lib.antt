pub mod UploadRows
pub mod RecordBytes
pub mod Fronts
pub mod Measured
pub mod Noted
pub mod Written
pub mod Replies
