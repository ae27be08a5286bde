pub mod Kinds
pub mod Payloads
pub mod Pieces
