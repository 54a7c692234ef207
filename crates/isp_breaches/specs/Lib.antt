pub mod Order
pub mod reader
