pub mod Moves
pub mod Asks
pub mod Turning
pub mod Joins
pub mod Leaves
pub mod Telling
pub mod Going
pub mod Passing
