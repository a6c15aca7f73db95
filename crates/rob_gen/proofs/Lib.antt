pub mod ListLemmas
pub mod NumberLemmas
pub mod TreeLemmas
pub mod MadeLemmas
pub mod GeneratedLemmas
