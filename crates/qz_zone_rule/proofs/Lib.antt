pub mod Faulty
pub mod Runs
pub mod Shown
pub mod Times
pub mod Views
pub mod Windows
pub mod Years
