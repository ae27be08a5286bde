pub mod Lists
pub mod Order
pub mod Heap
pub mod Sift
pub mod Queue
pub mod Numbers
pub mod Walk
