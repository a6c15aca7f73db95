pub mod Entries
pub mod Updates
pub mod Choices
pub mod Maps
