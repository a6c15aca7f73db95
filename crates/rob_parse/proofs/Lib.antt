pub mod Names
pub mod Degrees
pub mod Sizes
pub mod Sets
pub mod Building
pub mod Chains
