pub mod Drafted
mod Called
