-- Places of a table, where a column is basic, and what stays from step to step.
pub mod Sizes
pub mod Views
pub mod EntryLemmas
pub mod Positions
pub mod ColumnLemmas
pub mod FreeColumns
pub mod OwnEntries
