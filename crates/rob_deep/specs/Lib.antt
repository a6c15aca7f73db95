pub mod Bigs
pub mod Factors
pub mod Rows
