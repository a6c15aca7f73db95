-- What statements with indices stand for, and what that costs.
pub mod ExpansionLemmas
pub mod PlainLemmas
pub mod FewLemmas
pub mod WorkLemmas
