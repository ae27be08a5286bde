pub mod ClockLaws
pub mod ClockSets
pub mod SkipLaws
pub mod DayTimes
pub mod Lacking
pub mod ListLaws
