pub mod Lists
pub mod Tables
pub mod Conditions
pub mod Scenarios
pub mod Proving
pub mod Naming
pub mod ByHand
