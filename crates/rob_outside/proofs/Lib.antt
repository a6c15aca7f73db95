pub mod FilesLemmas
pub mod PutsLemmas
pub mod TakenLemmas
pub mod WriteLemmas
