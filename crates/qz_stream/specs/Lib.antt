pub mod Blocks
pub mod Front
pub mod Standing
