pub mod Writes
pub mod Runs
pub mod Tables
pub mod Laws
