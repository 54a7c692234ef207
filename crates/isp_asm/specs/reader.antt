-- What the functions of the reader give, and how those of the writer take instructions apart. Nothing here is promised: proofs/ ties it to the rules.
pub mod Kinds
pub mod Making
pub mod Reading
pub mod Drafting
