pub mod Stands
pub mod Linked
pub mod Notes
pub mod Splicing
pub mod Climbs
pub mod Parts
pub mod PartFields
