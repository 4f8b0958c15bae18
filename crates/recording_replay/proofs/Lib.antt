pub mod Tells
pub mod ByVerb
