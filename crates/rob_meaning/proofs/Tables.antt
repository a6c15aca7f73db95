-- Tables, matrices, forms, and how many there are.
pub mod TableLemmas
pub mod EntryLemmas
pub mod ClearingLemmas
pub mod TauLemmas
pub mod FormLemmas
pub mod SizeLemmas
pub mod MatrixLemmas
pub mod AtLemmas
