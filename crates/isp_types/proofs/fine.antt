-- Every program that names and types accept is fine.
pub mod Names
pub mod Callees
pub mod Values
pub mod Passed
pub mod Calls
pub mod Exprs
pub mod Simples
pub mod Stmts
pub mod Declared
pub mod Differ
pub mod FewExprs
pub mod FewStmts
pub mod Functions
