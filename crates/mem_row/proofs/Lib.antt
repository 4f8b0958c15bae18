pub mod RowLaws
pub mod FieldLaws
pub mod RowFields
