-- A new cost, column by column.
pub mod LoweredColumns
pub mod CostStages
pub mod BasicColumns
pub mod NewCosts
pub mod LoweredTables
pub mod ClearedObjective
