-- The degrees of what a line without a fault says, and what its numbers keep.
pub mod DegreeLemmas
pub mod UsedLemmas
pub mod DeviationLemmas
pub mod FitLemmas
pub mod NumberLemmas
