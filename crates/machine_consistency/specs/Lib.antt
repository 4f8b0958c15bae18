pub mod LastWrites
pub mod Shown
pub mod Origins
