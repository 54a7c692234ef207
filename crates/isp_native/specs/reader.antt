-- Definitions that only say how the code goes about it. No part of a promise.
pub mod Forms
pub mod Kinds
