pub mod Example
pub mod Following
pub mod Turns
pub mod Undisturbed
