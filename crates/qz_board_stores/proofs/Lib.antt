mod Beginning
pub mod Sending
