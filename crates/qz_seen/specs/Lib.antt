pub mod Asking
pub mod Effects
pub mod Seen
