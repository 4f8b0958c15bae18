pub mod RowLengths
pub mod ObjectRows
pub mod Front
pub mod RecordBytes
pub mod Places
pub mod Replies
