-- Names, and that no two are the same.
pub mod NameLemmas
pub mod JoinedLemmas
pub mod NamedLemmas
pub mod FineNames
pub mod DeclaredLemmas
pub mod NamedFormLemmas
pub mod FinePartLemmas
pub mod NamedSetLemmas
