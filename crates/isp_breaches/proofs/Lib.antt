mod Listed
mod Walks
mod Steps
mod InOrder
mod First
mod Examples
