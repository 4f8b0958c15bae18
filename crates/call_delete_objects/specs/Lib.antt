pub mod Judged
pub mod PlaceDone
pub mod Given
