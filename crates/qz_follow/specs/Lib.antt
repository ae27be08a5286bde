pub mod Following
pub mod Kept
pub mod Payloads
pub mod Promoting
pub mod Taking
pub mod View
