-- Rows exchanged, copied, taken over by rows of another limit, reduced.
pub mod RowEdits
pub mod EditLemmas
pub mod LowestRows
pub mod ShortParts
pub mod CopiedTables
pub mod Deepened
pub mod ReadRows
