pub mod Calendars
pub mod Json
pub mod Jobs
pub mod Lines
pub mod Numbers
pub mod Triggers
pub mod Zones
