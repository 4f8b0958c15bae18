pub mod Judging
pub mod MadeLaws
pub mod Noting
pub mod Reading
pub mod Unseen
