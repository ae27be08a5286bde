mod Beginnings
mod Growing
mod Keeping
mod Showing
