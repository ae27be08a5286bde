pub mod ClockLemmas
pub mod NumberLemmas
pub mod TurnLemmas
pub mod DatedLemmas
