pub mod Looks
pub mod Watches
