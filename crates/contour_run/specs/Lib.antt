pub mod Request
pub mod Command
pub mod Given
pub mod Drawing
pub mod Running
pub mod Spelled
