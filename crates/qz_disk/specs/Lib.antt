pub mod Counts
pub mod Disk
pub mod Failing
pub mod Handle
pub mod Memory
pub mod MemoryLaws
pub mod Recorded
pub mod System
