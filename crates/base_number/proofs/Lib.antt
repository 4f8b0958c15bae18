pub mod NumberLaws
-- `Fields` has the laws of bytes at a place after bytes are written over another, and `Halves` those by which a number is read and written.
pub mod Fields
pub mod Halves
