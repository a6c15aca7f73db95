pub mod Answer
pub mod Counts
pub mod Frac
pub mod Lowest
pub mod formers
