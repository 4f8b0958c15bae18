pub mod Rows
pub mod Search
pub mod Bringing
pub mod Ordering
pub mod Gathering
pub mod Listed
