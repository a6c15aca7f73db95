pub mod WholeNumbers
pub mod WholeStatus
pub mod Boxes
pub mod Ranges
pub mod Trees
pub mod Growing
pub mod Sweeps
pub mod Verdicts
