pub mod Turns
mod Suited
mod Patterns
