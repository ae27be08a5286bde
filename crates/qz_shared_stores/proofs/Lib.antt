pub mod GoingOn
pub mod Sending
pub mod TablesSend
