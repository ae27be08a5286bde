pub mod Boards
pub mod Pages
pub mod Posts
