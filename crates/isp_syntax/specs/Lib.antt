pub mod Promise
pub mod Refusals
