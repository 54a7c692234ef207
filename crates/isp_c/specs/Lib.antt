pub mod Tracing
pub mod Commanding
