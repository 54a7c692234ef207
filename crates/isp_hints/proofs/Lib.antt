mod More
mod InOrder
mod Listed
