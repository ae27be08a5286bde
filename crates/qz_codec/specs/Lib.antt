pub mod Records
pub mod Layout
pub mod Values
pub mod Reading
pub mod Rows
pub mod States
pub mod Zones
pub mod Calendars
