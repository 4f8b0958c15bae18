pub mod Exported
pub mod Line
