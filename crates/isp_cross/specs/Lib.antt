pub mod Lanes
pub mod Scans
pub mod Laws
