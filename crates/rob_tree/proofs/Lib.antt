pub mod Numbers
pub mod BoxShapes
pub mod Writing
pub mod Readers
pub mod OneText
