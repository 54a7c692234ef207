pub mod Lemmas
mod Ones
mod Told
mod Alones
mod Steadies
mod Counts
mod Linears
mod Standing
mod Untouched
mod Scoping
mod Declaring
mod Sampled
mod Singles
mod Bodily
mod Rounding
