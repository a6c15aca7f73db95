-- Lists by place, sums along them, and fractions.
pub mod EachLemmas
pub mod AlongLemmas
pub mod LinearLemmas
pub mod AbsoluteLemmas
pub mod TabulateLemmas
pub mod OrderLemmas
pub mod LeastLemmas
pub mod ListLemmas
pub mod PlaceLemmas
pub mod DistinctLemmas
