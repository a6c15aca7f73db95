-- Forms over nested ranges, and which fault of a line is named.
pub mod FormLemmas
pub mod NestLemmas
pub mod DecisionLemmas
pub mod FastLemmas
pub mod SearchLemmas
