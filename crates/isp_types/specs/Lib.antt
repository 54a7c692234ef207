pub mod Numbering
pub mod Declarations
pub mod Simple
pub mod Nodes
pub mod Statements
pub mod Functions
pub mod reader
