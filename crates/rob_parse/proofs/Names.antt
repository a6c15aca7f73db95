-- What names stand for, and which names a model that is read has.
pub mod SortLemmas
pub mod WordSetLemmas
pub mod NamedLemmas
pub mod ChainLemmas
pub mod DeclaredLemmas
pub mod OnceLemmas
pub mod WellNamed
pub mod ExpandedNames
