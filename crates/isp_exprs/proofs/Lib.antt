pub mod Exprs
mod ExprViews
mod Bindings
mod Shadows
mod Headings
mod LibraryParts
mod PassedParts
mod CallViews
mod LibraryNames
pub mod Gathered
mod Judged
