pub mod TextMeanings
pub mod ByteByByte
pub mod QuietRuns
pub mod CutInputs
pub mod Comments
pub mod LongestRuns
pub mod PlacedFaults
pub mod Answering
