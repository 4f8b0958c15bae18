pub mod Rules
pub mod Header
pub mod Memory
pub mod FreeBytes
