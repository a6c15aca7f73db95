-- From statements to the model, step by step; and that it is well formed.
pub mod MapLemmas
pub mod BuildLemmas
pub mod AddedLemmas
pub mod ModelLemmas
pub mod PlacedLemmas
pub mod OneModel
