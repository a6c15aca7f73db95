pub mod CellLemmas
pub mod BlockLemmas
pub mod ColumnLemmas
pub mod OverCellLemmas
pub mod OneSetLemmas
pub mod FormedLemmas
pub mod ScenarioLemmas
pub mod PlanLemmas
pub mod PieceLemmas
pub mod NamedSplitLemmas
mod WorkedPieces
