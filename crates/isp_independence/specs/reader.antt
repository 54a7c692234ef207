pub mod Answers
pub mod Paths
pub mod Visits
pub mod Firsts
