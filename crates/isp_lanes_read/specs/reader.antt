pub mod Known
pub mod Passing
