pub mod WholeNumberLemmas
pub mod SameColumns
pub mod BoxLemmas
pub mod StatusLemmas
pub mod DirectionLemmas
pub mod RangeLemmas
pub mod TreeLemmas
pub mod SplitLemmas
pub mod GrowingLemmas
pub mod GrownLemmas
pub mod RuleLemmas
pub mod SweepLemmas
pub mod NameLemmas
pub mod VerdictLemmas
pub mod GrownTreeLemmas
pub mod WorkedTests
mod WorkedTrees
mod WorkedSweeps
