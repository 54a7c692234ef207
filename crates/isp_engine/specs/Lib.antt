pub mod Files
pub mod Told
pub mod Failures
pub mod Stories
pub mod Checking
pub mod Commands
