pub mod Amounts
pub mod reader
