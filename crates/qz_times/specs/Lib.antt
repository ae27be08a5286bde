pub mod Answers
pub mod Known
pub mod Runs
pub mod Said
