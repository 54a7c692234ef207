pub mod Lemmas
mod Growing
mod Filling
mod There
mod Homes
mod Lookup
mod Walks
