pub mod LinearPrograms
pub mod Bases
pub mod BasisPaths
pub mod Meaning
pub mod CostChange
pub mod RowForms
pub mod KeptOut
mod Worked
