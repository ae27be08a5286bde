pub mod Calling
mod Cases
mod Ends
pub mod Hearing
mod Keeping
pub mod Wants
