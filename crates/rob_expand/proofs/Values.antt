-- Values for indices: what is placed, and what an expression then stands for.
pub mod PlacingLemmas
pub mod PlaceLemmas
pub mod ScopeLemmas
pub mod AlikeLemmas
pub mod TreesLemmas
