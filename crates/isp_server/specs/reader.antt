-- What the code computes with: nothing here is promised.
pub mod Signatures
pub mod Views
