-- What the endings show.
pub mod Endings
pub mod Truths
pub mod Blocks
pub mod Optimality
pub mod Fundamental
