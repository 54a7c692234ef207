pub mod Loading
pub mod Showing
pub mod Writing
