-- What was put, and how a call ends.
pub mod EndsLemmas
pub mod FetchedAnswers
pub mod PutLemmas
pub mod LinesLemmas
