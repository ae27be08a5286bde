pub mod Accepted
pub mod ChainSteps
pub mod Deletions
pub mod JobLists
pub mod Moves
pub mod Refused
pub mod Searches
pub mod UpToHorizon
