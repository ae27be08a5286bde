pub mod Accounts
pub mod Asked
pub mod Declining
pub mod Going
pub mod Logs
pub mod View
pub mod Ways
