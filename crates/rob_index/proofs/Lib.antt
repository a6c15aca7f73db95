pub mod Parsing
pub mod Expanding
pub mod Faults
pub mod Tokens
pub mod Names
pub mod LinesRead
mod Worked
