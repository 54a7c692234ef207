pub mod AtWork
pub mod Kept
pub mod Printed
pub mod Written
pub mod Awaited
pub mod Added
pub mod reader
