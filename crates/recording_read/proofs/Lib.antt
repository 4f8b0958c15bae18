pub mod Places
pub mod NumberSteps
pub mod StringSteps
