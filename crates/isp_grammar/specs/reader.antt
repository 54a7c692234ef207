-- How the parser reads, for the contracts of its own functions: no part of what `parse` promises.
pub mod Readers
pub mod Choices
pub mod Starts
pub mod Types
pub mod Exprs
pub mod Stmts
pub mod Programs
