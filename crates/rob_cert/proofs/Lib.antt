pub mod Words
pub mod Readers
pub mod Writing
pub mod OneText
