-- Whole numbers, ranges, named variables, and a leaf's number.
pub mod WholeNumberLemmas
pub mod RangeLemmas
pub mod NamedLemmas
pub mod WalkLemmas
