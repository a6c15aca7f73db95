-- Which fault of a statement or a line comes first, and what is known where none does.
pub mod SearchLemmas
pub mod TwiceLemmas
pub mod ReadingLemmas
pub mod IndicesLemmas
pub mod ShownLemmas
pub mod LowestLemmas
