pub mod AnswerLemmas
pub mod BytesLemmas
pub mod CaseLemmas
pub mod LawLemmas
pub mod NumberLemmas
pub mod SpellingLemmas
pub mod StepLemmas
pub mod WordLemmas
