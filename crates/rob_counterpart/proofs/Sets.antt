-- A model's whole numbers; the program of its set.
pub mod ModelLemmas
pub mod SetLemmas
pub mod ScenarioLemmas
pub mod OwnSetLemmas
