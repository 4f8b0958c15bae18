pub mod AffixLaws
pub mod OrderLaws
-- `Answers` says what an answer of `compare` tells, and `Strings` has the laws that the proofs of the comparisons stand on.
pub mod Answers
pub mod Strings
pub mod BigLaws
pub mod Tells
