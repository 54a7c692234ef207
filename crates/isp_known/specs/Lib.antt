pub mod reader
pub mod Notes
pub mod Placed
pub mod Places
pub mod Shown
