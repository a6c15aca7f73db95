-- The degrees and the trees of expressions.
pub mod WeightLemmas
pub mod WalkLemmas
pub mod RealTrees
