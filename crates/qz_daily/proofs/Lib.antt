pub mod DayTimes
pub mod LocalSeconds
pub mod Fires
