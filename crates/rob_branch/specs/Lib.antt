pub mod View
pub mod Growth
pub mod GrownText
pub mod Verdicts
pub mod Leaves
