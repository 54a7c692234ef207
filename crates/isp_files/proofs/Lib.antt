pub mod Back
pub mod Bytes
pub mod Steps
pub mod Whole
