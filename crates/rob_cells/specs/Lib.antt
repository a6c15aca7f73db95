pub mod View
pub mod Rules
pub mod Meaning
pub mod Building
pub mod Counts
