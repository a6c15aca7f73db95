-- Rows, kind by kind, in whole numbers.
pub mod BoundLemmas
pub mod BoundRowLemmas
pub mod BudgetLemmas
pub mod BudgetSteps
pub mod ClearingSteps
pub mod LiftedLemmas
pub mod MachineProducts
pub mod ParameterCounts
pub mod RowLemmas
pub mod SetEnds
pub mod StatementCases
pub mod StatementCounts
pub mod StatementLemmas
