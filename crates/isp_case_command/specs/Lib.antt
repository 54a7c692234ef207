pub mod Stopping
pub mod Showing
pub mod Testing
