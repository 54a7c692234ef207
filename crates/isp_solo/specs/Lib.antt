pub mod Places
pub mod Report
pub mod Touched
pub mod Left
pub mod Together
pub mod Came
