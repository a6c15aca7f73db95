-- Set conditions and set rows; weights that show an empty set.
pub mod AdmissionLemmas
pub mod AdmittedLemmas
pub mod SetRowLemmas
pub mod ConeLemmas
pub mod WholeRowLemmas
pub mod EmptyLemmas
pub mod RowSetLemmas
pub mod OwnRowLemmas
pub mod EmptyInLemmas
