pub mod Events
pub mod Lists
pub mod Known
pub mod Questions
