-- Definitions that only say how the code goes about it. No part of a promise.
pub mod Calls
pub mod Lists
pub mod Pieces
pub mod Refusals
pub mod Runs
pub mod Typed
