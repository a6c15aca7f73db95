-- Paths of bases, their measure, both phases.
pub mod Paths
pub mod Starts
pub mod Auxiliary
pub mod Costs
pub mod TwoPhases
pub mod ProgramPaths
pub mod LastBases
pub mod Measure
pub mod Phases
pub mod Extensions
