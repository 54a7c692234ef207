pub mod Elements
pub mod Puts
pub mod Packs
