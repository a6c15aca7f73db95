pub mod ListLemmas
pub mod Parts
mod Recipes
pub mod Signs
pub mod WholeNumbers
pub mod WidthLaws
