pub mod File
pub mod Lines
