pub mod Removing
pub mod LastWrites
pub mod Shown
pub mod Untouched
pub mod Origins
