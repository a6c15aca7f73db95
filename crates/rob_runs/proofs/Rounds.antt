-- Rounds and runs: that there is one, and that it ends.
pub mod CutLemmas
pub mod ProgressLemmas
pub mod LimitLemmas
pub mod NextRounds
pub mod FinishedRuns
pub mod OneRun
pub mod OneEnd
pub mod FirstRound
