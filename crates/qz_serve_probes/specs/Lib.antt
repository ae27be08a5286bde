pub mod Promises
pub mod Ways
