pub mod PairSteps
pub mod InBrackets
pub mod ListSteps
pub mod OnePair
pub mod PairLists
