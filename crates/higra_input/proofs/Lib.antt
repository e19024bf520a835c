pub mod EdgeListFaults
pub mod GettingLemmas
pub mod PictureFaults
pub mod ReadingLemmas
