pub mod Depths
pub mod Solving
