pub mod Finding
pub mod Giving
pub mod Saying
