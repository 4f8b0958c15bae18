pub mod LetterLaws
pub mod PathLaws
