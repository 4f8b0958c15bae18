pub mod Results
pub mod Run
pub mod Pieces
