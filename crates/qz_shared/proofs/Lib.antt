pub mod Answered
pub mod Calling
pub mod Short
pub mod Sinces
