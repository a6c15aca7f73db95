pub mod JudgeLemmas
pub mod JudgingLemmas
pub mod PassingLemmas
pub mod ThinLemmas
