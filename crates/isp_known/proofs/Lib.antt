mod Found
mod Narrowest
mod Words
