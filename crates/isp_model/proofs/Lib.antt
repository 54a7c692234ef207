pub mod Cutting
pub mod Endings
pub mod Evaluating
