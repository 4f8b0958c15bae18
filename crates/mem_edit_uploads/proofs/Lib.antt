pub mod UploadEdits
pub mod PartStates
pub mod PartEdits
