mod Folded
mod Control
mod Sections
mod Exports
mod Valid
