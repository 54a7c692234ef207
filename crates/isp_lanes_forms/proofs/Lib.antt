mod Alikes
mod Harmless
mod Lists
