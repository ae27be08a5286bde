pub mod Clocks
pub mod Offsets
pub mod Tables
