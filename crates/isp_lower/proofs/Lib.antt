pub mod Lemmas
mod Views
mod Landing
mod Staying
mod Keeping
mod ChangedBy
mod Arguments
mod LibraryValues
mod JumpLines
mod Headers
mod Naming
mod Aparts
mod NamedThere
mod Behind
