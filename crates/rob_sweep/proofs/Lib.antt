pub mod BudgetLemmas
pub mod LimitLemmas
pub mod AnswerLemmas
pub mod SweepLemmas
pub mod TextLemmas
