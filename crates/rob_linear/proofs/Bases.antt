-- Rows of a basis, pivots, the lexicographic rule, turns.
pub mod Solutions
pub mod Pivots
pub mod Lexical
pub mod Unique
pub mod Exact
pub mod Primitive
pub mod Turns
pub mod Choices
pub mod Square
