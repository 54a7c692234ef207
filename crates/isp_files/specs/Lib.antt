pub mod Reading
pub mod Endian
pub mod Files
pub mod Npy
pub mod Images
pub mod Writing
pub mod reader
