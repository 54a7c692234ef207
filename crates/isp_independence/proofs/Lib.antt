mod Order
mod Answered
mod Steps
mod Views
mod Walks
mod Arcs
mod Turning
mod Visiting
mod InOrder
mod Joined
pub mod Single
pub mod Examples
