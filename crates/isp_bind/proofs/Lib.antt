pub mod Members
pub mod Binds
pub mod Shorts
pub mod Texts
pub mod Promised
pub mod Ends
