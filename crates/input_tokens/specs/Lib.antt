pub mod Tokens
pub mod LongestRuns
pub mod Rules
pub mod Lexing
pub mod Progress
