pub mod Meant
pub mod Verbs
