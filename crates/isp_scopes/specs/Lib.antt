pub mod Signs
pub mod Scopes
