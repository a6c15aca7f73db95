pub mod Places
pub mod Rows
pub mod Pivoting
pub mod Leaving
pub mod Turns
pub mod CostChange
pub mod Telling
