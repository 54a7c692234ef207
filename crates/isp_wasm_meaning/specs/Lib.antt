pub mod Digits
pub mod Syntax
pub mod Meaning
pub mod Module
pub mod Valid
pub mod Lists
pub mod Ladder
