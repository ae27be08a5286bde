pub mod Checkpoints
pub mod Filling
pub mod Heads
pub mod Opening
pub mod Rows
pub mod Snapshots
