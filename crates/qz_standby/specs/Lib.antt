pub mod CheckIns
pub mod Forms
pub mod Fronts
pub mod Making
pub mod Parts
pub mod Reading
