pub mod Numbers
pub mod Steps
pub mod ReadWords
pub mod Folded
pub mod Unique
pub mod Leb
pub mod Tell
mod Engine
