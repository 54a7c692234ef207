pub mod Limits
pub mod Lines
pub mod Opened
pub mod Operands
pub mod Places
pub mod Settings
pub mod reader
