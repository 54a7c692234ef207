pub mod Solos
pub mod Commands
