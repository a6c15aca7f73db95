pub mod Vectors
pub mod Refusals
pub mod Costs
pub mod Finding
pub mod Tasks
pub mod Finders
