mod Lists
mod Passed
mod Moves
mod Settled
mod Holding
