-- Lists, lists in two parts, the cells of a table.
pub mod CellLemmas
pub mod EntryLemmas
pub mod ItemLemmas
pub mod ListLemmas
pub mod NumberLemmas
pub mod PartedLemmas
