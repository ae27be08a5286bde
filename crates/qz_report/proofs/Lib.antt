pub mod Counting
pub mod Escapes
