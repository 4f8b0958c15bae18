-- `Choice` has the law of bits by which G is a sum, `Steps` that of an operation, `Rows` that of a round, `Chain` those of the blocks,
-- `LastBlocks` those of the padding, and `Fields` those by which a digest is read and written.
pub mod Chain
pub mod Choice
pub mod Fields
pub mod LastBlocks
pub mod Rows
pub mod Steps
