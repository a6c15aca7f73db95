pub mod Pairs
pub mod Positions
pub mod Sets
pub mod Proving
pub mod Searching
mod WorkedCounterpart
