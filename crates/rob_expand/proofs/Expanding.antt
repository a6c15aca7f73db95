-- The plain statements that are made, and their names.
pub mod InstanceLemmas
pub mod NameLemmas
pub mod MakeLemmas
pub mod PrintLemmas
pub mod ExpandLemmas
