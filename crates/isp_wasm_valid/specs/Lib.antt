pub mod Typing
pub mod Modules
