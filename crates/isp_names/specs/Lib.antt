pub mod reader
pub mod Known
pub mod Renames
