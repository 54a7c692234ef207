-- How the code takes instructions apart. Nothing here is promised.
pub mod Kinds
pub mod Instructions
