-- What one call says of another, and what holds of the models of numbers.
pub mod ProvedReplays
pub mod ProvedWorsts
pub mod OneTable
pub mod GeneratedWholes
pub mod OneSummary
pub mod PrintedTreeLemmas
pub mod SplitTextLemmas
pub mod NarrowLawLemmas
pub mod StatusLawLemmas
pub mod PieceLawLemmas
pub mod NarrowForms
pub mod GeneratedTexts
