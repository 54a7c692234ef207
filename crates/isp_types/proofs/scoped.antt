-- Every program that names and types accept is scoped.
pub mod Names
pub mod Exprs
pub mod Simples
pub mod Stmts
pub mod Functions
