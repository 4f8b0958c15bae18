pub mod Walk
pub mod Searches
pub mod Answers
pub mod UploadsFrom
