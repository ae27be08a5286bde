pub mod Prepared
pub mod Recovering
pub mod Rows
