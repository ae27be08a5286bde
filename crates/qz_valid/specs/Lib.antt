pub mod Calendars
pub mod Fired
pub mod Keys
pub mod Limits
pub mod Members
pub mod Names
pub mod Triggers
pub mod Whole
