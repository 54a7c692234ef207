pub mod Numbers
pub mod Operators
pub mod Instructions
pub mod Modules
pub mod Same
pub mod Binary
pub mod Named
pub mod Reading
