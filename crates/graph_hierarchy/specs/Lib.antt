pub mod Hierarchies
pub mod Tilings
