pub mod Runs
pub mod WeightLemmas
pub mod PieceLemmas
pub mod PlaceLemmas
pub mod OffenceLemmas
pub mod OneReading
pub mod SliceLemmas
pub mod ShallowLemmas
