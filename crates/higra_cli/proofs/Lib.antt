pub mod LineLemmas
pub mod RunningLemmas
