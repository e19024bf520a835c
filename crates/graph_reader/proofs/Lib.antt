pub mod Chains
pub mod Takes
pub mod Decoding
pub mod Pictures
pub mod Spelling
pub mod LeftToRight
pub mod FirstFault
