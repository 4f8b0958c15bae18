pub mod FaultLaws
pub mod BlockLaws
