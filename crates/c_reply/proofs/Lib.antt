pub mod Places
pub mod ReadingBack
pub mod Telling
pub mod Alone
pub mod RepliesTold
