-- Scenarios of each set, joint scenarios, models of one set.
pub mod JointScenarioLemmas
pub mod AloneLemmas
pub mod JointBoundLemmas
pub mod OneSetLemmas
