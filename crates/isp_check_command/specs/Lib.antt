pub mod Checking
pub mod Notes
pub mod Pages
