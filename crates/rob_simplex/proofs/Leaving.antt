-- Which row leaves, and which is the least.
pub mod RatioTests
pub mod RatioLemmas
pub mod Ties
pub mod LeastRows
pub mod KnownRows
