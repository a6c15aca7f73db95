-- Sums by blocks; pairs of columns.
pub mod Blocks
pub mod OppositeColumns
pub mod SplitLemmas
pub mod PairLaw
pub mod PairNumbers
pub mod QuotientLemmas
pub mod TabulateLemmas
