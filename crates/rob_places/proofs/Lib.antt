pub mod AroundLemmas
pub mod PriceLemmas
pub mod StepLemmas
pub mod WalkLemmas
