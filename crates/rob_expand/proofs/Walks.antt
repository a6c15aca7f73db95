-- Walks over lines and lists, and what they find.
pub mod LineLemmas
pub mod ListLemmas
pub mod WalkLemmas
pub mod FindingLemmas
