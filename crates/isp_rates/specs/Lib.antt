pub mod Breaches
pub mod Rates
pub mod Exits
pub mod Program
pub mod Accepted
pub mod Exports
pub mod reader
