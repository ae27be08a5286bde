pub mod Completing
pub mod Flushes
pub mod Fronts
pub mod Openings
pub mod Tells
