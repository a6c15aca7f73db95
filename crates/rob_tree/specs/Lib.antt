pub mod View
pub mod Shape
pub mod TreeText
pub mod ClaimLines
pub mod Reading
pub mod Parts
pub mod Walks
