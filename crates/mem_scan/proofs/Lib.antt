pub mod Readings
pub mod EntryTurns
pub mod Ends
