pub mod Tree
pub mod Views
pub mod Depth
pub mod Nodes
pub mod Sound
