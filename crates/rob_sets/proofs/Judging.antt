-- Judging in order: why a call stops, the first wide spot, and what was appended so far.
pub mod AnswerLemmas
pub mod AppendingLemmas
pub mod JudgedLemmas
pub mod JudgingLemmas
pub mod ProgressLemmas
pub mod RowSteps
pub mod StopLemmas
