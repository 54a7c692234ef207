pub mod Sinks
pub mod Stops
