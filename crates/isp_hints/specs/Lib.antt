pub mod Accesses
pub mod Loops
pub mod Hints
