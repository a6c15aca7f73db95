-- From an answer back to what it comes of, also where a part of what is known of the files decides.
pub mod OriginLemmas
pub mod TreeOriginLemmas
pub mod NumberOriginLemmas
pub mod ProgressLemmas
pub mod ReadOnceLemmas
pub mod CommandLemmas
pub mod SplitOriginLemmas
pub mod SplitKnownLemmas
pub mod KnownInputs
pub mod KnownLemmas
