-- What the last rows tell, and why a path isn't followed to an answer.
pub mod Quotients
pub mod SolverRows
pub mod LastPoints
pub mod Solved
pub mod JudgingLemmas
pub mod WeightLemmas
pub mod Told
pub mod ToldRows
pub mod Solving
pub mod Causes
pub mod TellLemmas
