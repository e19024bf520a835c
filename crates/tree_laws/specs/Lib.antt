pub mod Tree
pub mod Levels
pub mod Zones
pub mod Worked
