pub mod Listed
pub mod Adding
