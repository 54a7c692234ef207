pub mod Fits
pub mod Cut
pub mod Through
pub mod Uniform
