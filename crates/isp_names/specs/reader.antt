-- What the code computes with: nothing here is promised.
pub mod Naming
pub mod Replacing
