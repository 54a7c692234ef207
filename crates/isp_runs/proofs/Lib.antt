pub mod Binds
pub mod Means
pub mod Runs
pub mod BoundRuns
pub mod Sends
pub mod Loads
