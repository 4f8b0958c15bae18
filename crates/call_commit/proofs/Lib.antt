pub mod Listing
pub mod Ordered
pub mod Fitting
pub mod PathRoom
pub mod Committing
