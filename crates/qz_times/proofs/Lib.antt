pub mod ChainLaws
pub mod NextLaws
pub mod SaidLaws
pub mod RunLaws
