pub mod SolvingLemmas
