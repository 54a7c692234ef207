-- What the functions of the code give. Nothing here is promised: proofs/ ties it to the rules.
pub mod Scopes
pub mod Headings
pub mod Parts
pub mod Lists
