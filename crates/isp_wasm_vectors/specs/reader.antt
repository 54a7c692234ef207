-- Definitions that only say how the code goes about it. No part of a promise.
pub mod Tails
pub mod Across
pub mod Parts
pub mod Vectors
pub mod Loops
pub mod Quotients
pub mod Runs
pub mod Shifts
