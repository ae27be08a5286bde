pub mod Boarded
pub mod Glances
pub mod StatusBoards
