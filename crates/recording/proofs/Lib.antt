pub mod Readers
pub mod Items
pub mod Digits
pub mod Strings
pub mod Verbs
pub mod Unique
pub mod Wholes
pub mod Longest
