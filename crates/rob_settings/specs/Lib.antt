pub mod Inner
pub mod Live
pub mod Rests
pub mod Room
pub mod Settings
pub mod Spots
