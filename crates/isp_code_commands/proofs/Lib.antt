mod Feeds
mod Pages
pub mod Stories
