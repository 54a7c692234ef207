pub mod Stmts
pub mod Functions
pub mod Joined
pub mod Seen
pub mod PartSteps
pub mod FunctionSteps
pub mod ItemSteps
pub mod NamesKept
pub mod Unique
mod ExprTrees
pub mod StmtTrees
pub mod StmtSteps
pub mod StmtParts
pub mod Meanings
pub mod fine
pub mod scoped
