pub mod PathTextLemmas
pub mod NodeLemmas
pub mod PlanLemmas
pub mod ShownLemmas
pub mod BoxPathLemmas
pub mod StopLemmas
