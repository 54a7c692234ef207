pub mod Inside
pub mod Indices
pub mod Lanes
pub mod Found
