-- What the functions of the code give. Nothing here is promised: proofs/ ties it to the rules.
pub mod Numerals
pub mod Pieces
pub mod Quotes
pub mod Runs
pub mod Signs
pub mod Words
