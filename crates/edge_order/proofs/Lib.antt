pub mod Sorted
pub mod Packed
pub mod Rows
