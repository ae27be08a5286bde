pub mod Ended
pub mod Prepared
