pub mod Counts
pub mod Histories
pub mod Numbers
pub mod Running
pub mod Serves
pub mod Wishes
