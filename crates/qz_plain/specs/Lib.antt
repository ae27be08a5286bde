pub mod Prepared
pub mod Replies
