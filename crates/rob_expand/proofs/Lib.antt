pub mod Counting
pub mod Values
pub mod Walks
pub mod Expanding
