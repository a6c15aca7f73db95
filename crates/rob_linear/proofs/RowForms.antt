-- Rows up to factors, and condensed rows.
pub mod Parallels
pub mod Multiples
pub mod MultipleStages
pub mod MultipleNumbers
pub mod MultiplePhases
pub mod MultiplePaths
pub mod CondensedRows
pub mod CondensedSigns
pub mod CondensedNumbers
