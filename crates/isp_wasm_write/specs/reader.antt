-- Definitions that only say how the code goes about it. No part of a promise.
pub mod Given
pub mod Jumps
pub mod Own
pub mod Tables
pub mod Tails
