-- What the functions of the code give. Nothing here is promised.
pub mod Apart
