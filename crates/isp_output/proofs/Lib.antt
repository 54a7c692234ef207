pub mod Written
pub mod Streams
