pub mod Moments
pub mod Search
