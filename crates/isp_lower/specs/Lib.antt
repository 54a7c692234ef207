pub mod Emitted
pub mod Written
pub mod Headings
pub mod Drafts
pub mod Adding
pub mod Behind
pub mod reader
