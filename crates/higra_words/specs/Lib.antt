pub mod Allowed
pub mod Command
pub mod CommandTexts
pub mod Request
pub mod Spelled
