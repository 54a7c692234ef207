pub mod Compiling
pub mod Running
pub mod Translating
pub mod Modules
pub mod FromSource
pub mod FromSourceToWasm
