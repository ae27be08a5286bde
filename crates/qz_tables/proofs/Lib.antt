mod BulkLemmas
mod ByJobLemmas
pub mod ByIds
mod Counts
mod DueLemmas
pub mod DueWalk
pub mod Filled
mod FiredWords
mod Firsts
mod JobRanges
pub mod Keys
pub mod LinkLemmas
mod Moves
mod NthEdits
mod Steps
mod Written
mod DueFound
mod OnceLemmas
pub mod Places
pub mod SlotEdits
mod SlotPlaces
pub mod SortLaws
mod YearLaws
