-- Searches for a worst case, and masters.
pub mod MasterLemmas
pub mod SearchLemmas
pub mod WorstCaseLemmas
pub mod CutItemLemmas
pub mod MasterEndings
