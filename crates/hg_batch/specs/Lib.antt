pub mod Pieces
pub mod Batch
pub mod Ending
pub mod Getting
pub mod Cutting
pub mod Jobs
pub mod JobsFields
pub mod Running
