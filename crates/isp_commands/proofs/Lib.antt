pub mod Sources
pub mod Solos
pub mod Requests
