pub mod Ascending
pub mod SortedLemmas
