pub mod PieceLemmas
pub mod ReadingLemmas
pub mod RunningLemmas
pub mod SideLemmas
pub mod TextLemmas
