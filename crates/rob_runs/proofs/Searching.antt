-- Searches: what they find, and how they go on from the set's program.
pub mod ResumeLemmas
pub mod SearchPaths
pub mod FoundLemmas
pub mod BasicCuts
pub mod ToldLemmas
pub mod FinderLemmas
