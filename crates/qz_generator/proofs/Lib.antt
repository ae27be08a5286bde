pub mod Steps
pub mod Valid
