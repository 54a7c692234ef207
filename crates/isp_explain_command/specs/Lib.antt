pub mod Texts
pub mod Explaining
