pub mod Texts
pub mod Lines
pub mod Runs
pub mod Requests
