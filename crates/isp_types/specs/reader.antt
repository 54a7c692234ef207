-- What the functions of the code give. Nothing here is promised: proofs/ ties it to the rules.
pub mod Lists
pub mod Boxes
pub mod Settings
pub mod Walks
