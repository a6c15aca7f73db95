pub mod AnswerLaws
pub mod CastLemmas
mod Comparing
pub mod CountLemmas
mod LowestLemmas
pub mod PairLemmas
