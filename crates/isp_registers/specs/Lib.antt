pub mod Lookup
pub mod Growth
pub mod Reserved
