mod Agreement
pub mod Apart
pub mod Chains
pub mod Deciding
pub mod Doubles
mod FiredTests
mod Freshness
pub mod LimitTests
pub mod NameNumbers
pub mod Sets
mod TriggerTests
pub mod Walks
pub mod Whole
