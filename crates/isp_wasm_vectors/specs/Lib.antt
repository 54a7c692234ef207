pub mod Lines
pub mod reader
