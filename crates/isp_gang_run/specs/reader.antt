-- How the code takes tasks and expressions apart. Nothing here is promised.
pub mod Kinds
