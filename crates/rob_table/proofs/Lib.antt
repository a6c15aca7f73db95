pub mod Places
pub mod Clearing
pub mod ClearingTops
pub mod RowMoves
pub mod LoweredRows
pub mod LoweringSteps
