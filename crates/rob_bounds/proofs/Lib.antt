pub mod Pigeonhole
pub mod Digits
pub mod Sizes
pub mod Equations
pub mod RowBounds
pub mod StartSizes
pub mod NarrowPaths
pub mod Powers
