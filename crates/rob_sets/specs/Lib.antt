pub mod Appending
pub mod FirstWide
pub mod SetForm
pub mod Stops
pub mod Subexpressions
pub mod Tables
pub mod Tabulating
