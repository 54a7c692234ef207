mod Ends
mod Shows
