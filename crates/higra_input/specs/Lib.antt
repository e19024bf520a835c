pub mod Feeding
pub mod Getting
pub mod Inputs
pub mod Reading
