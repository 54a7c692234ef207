-- What the functions of the code give. Nothing here is promised: proofs/ ties it to the rules.
pub mod Exprs
pub mod Stmts
pub mod Programs
