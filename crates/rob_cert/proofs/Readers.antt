-- The readers: what leads on, and offences.
pub mod EntryLemmas
pub mod SectionLemmas
pub mod CauseLemmas
pub mod CoverLemmas
pub mod ItemLemmas
pub mod RankLemmas
pub mod PartLemmas
pub mod EndLemmas
pub mod FirstLinesLemmas
pub mod WholeLemmas
