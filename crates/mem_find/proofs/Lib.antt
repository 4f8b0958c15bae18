pub mod Found
pub mod RowsAt
pub mod RowHeads
pub mod Splits
pub mod ObjectAt
pub mod ObjectSearch
pub mod TwoPaths
pub mod PairSizes
