pub mod Depths
pub mod Turns
