pub mod Beginners
