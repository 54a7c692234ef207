pub mod reader
pub mod Sessions
pub mod Ends
