pub mod FormerRow
pub mod FormerMemory
pub mod FormerStands
pub mod FormerCases
pub mod FormerParts
pub mod Former
pub mod Abnf
