pub mod Packing
pub mod Unpacking
pub mod reader
