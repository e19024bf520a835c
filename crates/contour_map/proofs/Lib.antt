pub mod EdgeNumbers
pub mod MapPoints
pub mod Scales
pub mod Drawings
pub mod Samples
