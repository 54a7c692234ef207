pub mod LaneViews
pub mod MaskViews
pub mod Finds
pub mod Shaping
pub mod Stored
pub mod Begins
pub mod Rewrites
