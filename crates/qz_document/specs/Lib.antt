pub mod Document
pub mod Items
pub mod Order
