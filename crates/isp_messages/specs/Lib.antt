pub mod Messages
pub mod Sayings
