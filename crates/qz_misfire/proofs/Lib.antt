pub mod MovedLaws
pub mod Moves
pub mod NextLaws
