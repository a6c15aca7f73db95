-- Boxes have the shape and the names of their model.
pub mod BoxLemmas
pub mod SpelledLemmas
pub mod MovedShapes
