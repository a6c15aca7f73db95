-- A new cost; rows that are wide.
pub mod Stages
pub mod OtherCosts
pub mod WideRows
