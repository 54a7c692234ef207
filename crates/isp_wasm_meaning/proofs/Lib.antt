pub mod Digits
pub mod Lanes
pub mod Bits
pub mod Memory
pub mod Ladders
mod Engine
mod EngineControl
mod EngineValid
