pub mod Before
pub mod Commands
pub mod Example
pub mod Fence
pub mod Losses
