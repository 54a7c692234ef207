pub mod Rows
pub mod Shapes
pub mod Views
pub mod Arrays
pub mod Moves
pub mod Begun
