pub mod Cells
pub mod Access
