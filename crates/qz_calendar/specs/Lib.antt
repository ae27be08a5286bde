pub mod Exclusions
pub mod Chains
pub mod Search
