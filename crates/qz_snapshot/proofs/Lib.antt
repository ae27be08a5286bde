mod Begins
mod CutShort
mod Faults
mod Filled
mod HeadBytes
pub mod Kind
mod KindByKind
mod Midway
mod Orders
mod Rooms
mod RowLists
mod Snapshotted
pub mod Unique
mod Written
