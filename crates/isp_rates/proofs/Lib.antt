pub mod Least
pub mod RateLaws
pub mod Steps
pub mod CallLaws
pub mod Views
pub mod Entries
pub mod Independent
pub mod Examples
