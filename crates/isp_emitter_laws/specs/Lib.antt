pub mod OfRows
pub mod Fitting
pub mod Staying
pub mod Parts
pub mod Finished
pub mod Written
pub mod Called
