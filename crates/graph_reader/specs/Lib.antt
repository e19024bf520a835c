pub mod EdgeList
pub mod Parsing
pub mod ParserFields
pub mod Progress
pub mod DecoderFields
pub mod Spelling
pub mod FirstFault
