pub mod Choosing
pub mod Moves
pub mod Prepared
pub mod Walk
