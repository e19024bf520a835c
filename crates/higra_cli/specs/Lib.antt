pub mod Ending
pub mod Exiting
pub mod Running
