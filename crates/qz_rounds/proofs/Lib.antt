pub mod Keeping
pub mod Lasting
pub mod Lists
pub mod Seen
pub mod Stopping
