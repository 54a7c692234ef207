mod Covered
mod Lists
mod RunGroups
mod Rungs
mod Written
mod Exported
mod Memories
mod Contents
pub mod FirstRefused
mod Vectors
