pub mod Faults
pub mod Binding
pub mod Bounds
pub mod Answering
pub mod Entries
