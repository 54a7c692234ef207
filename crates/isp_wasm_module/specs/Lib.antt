pub mod Refused
pub mod reader
