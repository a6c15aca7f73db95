-- What is counted of an expression, a line and its items.
pub mod CountLemmas
pub mod LinesLemmas
pub mod StepLemmas
pub mod OverLemmas
pub mod FitsLemmas
pub mod PartsLemmas
pub mod ThinLemmas
pub mod InmostLemmas
