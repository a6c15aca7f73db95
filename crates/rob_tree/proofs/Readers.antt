-- The readers, piece by piece.
pub mod ReadingLemmas
pub mod LineLemmas
pub mod PartLemmas
pub mod PieceLemmas
pub mod FirstLineLaws
pub mod NodeSteps
pub mod ReaderLemmas
pub mod CutLemmas
