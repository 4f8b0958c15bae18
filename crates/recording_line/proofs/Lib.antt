pub mod Lines
pub mod ReadArguments
pub mod SameCalls
pub mod CutPairs
