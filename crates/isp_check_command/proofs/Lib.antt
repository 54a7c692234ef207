mod Lists
mod Pages
