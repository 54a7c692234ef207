pub mod Rows
pub mod Lanes
pub mod Reads
pub mod Free
pub mod Standing
pub mod reader
pub mod Laws
