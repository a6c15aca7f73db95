-- What is written, and what fits.
pub mod TreeWriterLemmas
pub mod GoodNodes
pub mod FitLemmas
