-- What a model that a text reads as has written, and that it is readable.
pub mod WrittenBack
pub mod PlacedModels
pub mod ReadableLemmas
pub mod ReadModels
pub mod WritableLines
pub mod DeclarableLines
