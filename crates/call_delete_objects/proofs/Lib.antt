pub mod OnePlace
pub mod Judging
pub mod Walking
pub mod PlacesInBytes
pub mod PlacesInSlice
