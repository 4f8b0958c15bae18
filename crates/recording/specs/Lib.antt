pub mod Entry
pub mod Print
pub mod Read
pub mod Parse
pub mod Cases
