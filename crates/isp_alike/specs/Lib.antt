pub mod Bare
pub mod Renamed
