pub mod Pool
pub mod Tables
pub mod Kept
pub mod RegionFields
