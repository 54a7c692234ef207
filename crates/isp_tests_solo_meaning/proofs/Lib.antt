mod Dependent
mod Independent
mod Touched
mod Rows
