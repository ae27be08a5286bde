pub mod Parts
pub mod Tellings
pub mod Unfit
