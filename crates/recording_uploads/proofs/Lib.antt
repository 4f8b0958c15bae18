pub mod Wide
pub mod WideLists
pub mod Forms
