pub mod Attributes
pub mod AttributesFields
pub mod Floors
pub mod Gathering
pub mod Report
pub mod Sums
