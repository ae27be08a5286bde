pub mod BitSets
pub mod Calendar
pub mod Clocks
pub mod Firsts
pub mod LongMonths
pub mod Parts
pub mod Weeks
