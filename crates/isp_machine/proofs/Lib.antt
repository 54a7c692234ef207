pub mod Converts
pub mod Written
pub mod Alike
pub mod Doing
pub mod Quickly
pub mod Strides
pub mod Stays
pub mod LocalArrays
pub mod Firsts
pub mod Passes
pub mod Called
pub mod Starting
pub mod Returned
pub mod Readies
mod Consecutive
mod Crossed
mod Seeing
