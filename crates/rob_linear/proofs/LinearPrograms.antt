-- Sums, programs and their starting rows, scaled points.
pub mod Vectors
pub mod Sums
pub mod Programs
pub mod Scaling
