pub mod FireTimes
pub mod Plan
pub mod Schedule
