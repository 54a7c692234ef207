pub mod Held
pub mod Own
pub mod LaneRows
pub mod Access
