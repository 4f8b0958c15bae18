pub mod Counts
pub mod RowPlaces
pub mod Places
pub mod Known
