-- `Live` and `Parts` have the laws for callers, of a buffer that is told in parts. The others are those that the proofs here stand on: of bytes moved,
-- spliced, swapped and rotated.
pub mod Live
pub mod Moving
pub mod Parts
pub mod Rotating
pub mod Splicing
pub mod Swapping
