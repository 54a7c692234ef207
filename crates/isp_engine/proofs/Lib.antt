pub mod Reading
pub mod Told
pub mod Requests
pub mod Pieces
