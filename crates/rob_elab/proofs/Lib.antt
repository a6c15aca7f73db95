pub mod AppendLemmas
pub mod BoundLemmas
pub mod FormParts
pub mod LeftLemmas
pub mod ObjectiveLemmas
pub mod RowLemmas
pub mod WrittenLemmas
