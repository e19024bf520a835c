pub mod CommandLemmas
pub mod DrawingLemmas
pub mod RunningLemmas
pub mod SpelledLemmas
