pub mod Stored
pub mod Lookups
pub mod Replies
