pub mod Turns
pub mod TurnRuns
pub mod Contexts
pub mod Jobs
pub mod ListJobs
pub mod Hubs
