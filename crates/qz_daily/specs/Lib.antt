pub mod Search
pub mod Timestamps
