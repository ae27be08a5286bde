pub mod Clocks
pub mod Interval
pub mod Turns
