-- Which answer has to come.
pub mod AnswerLemmas
pub mod CompletenessLemmas
pub mod WorstAnswerLemmas
pub mod AbsentAnswerLemmas
pub mod TrueAnswerLemmas
pub mod ReplayAnswerLemmas
pub mod ComparedAnswerLemmas
pub mod WholeAnswerLemmas
pub mod TreeAnswerLemmas
pub mod ComingLemmas
pub mod SplitAnswerLemmas
pub mod SweepAnswerLemmas
pub mod NarrowAnswerLemmas
pub mod SolveAnswers
