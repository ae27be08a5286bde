pub mod Lists
pub mod Heaps
pub mod Sorts
pub mod Known
pub mod Bounds
pub mod Edited
pub mod Seen
pub mod Below
