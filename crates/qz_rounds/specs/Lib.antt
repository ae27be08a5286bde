pub mod Adding
pub mod Declining
pub mod Looking
pub mod Recovering
pub mod Rounds
