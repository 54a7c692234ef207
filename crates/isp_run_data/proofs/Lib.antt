mod Names
mod Turns
