mod PairLemmas
mod NameLemmas
mod LabelLemmas
mod ReportLemmas
mod TermLemmas
mod TableLemmas
mod ColumnLemmas
mod PlaceAnswers
mod WorstLemmas
mod RoundLemmas
pub mod SpotLemmas
