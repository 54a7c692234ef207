pub mod Begins
pub mod Allowed
pub mod reader
