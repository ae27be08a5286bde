pub mod Fronts
pub mod Faults
pub mod Once
pub mod Stores
pub mod Parts
pub mod Steps
