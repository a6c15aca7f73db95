-- Models worked by hand.
pub mod WorkedDecisions
pub mod WorkedTests
pub mod WorkedNotation
mod WorkedModels
mod WorkedBudgets
mod WorkedSets
mod WorkedNamedSets
mod WorkedEachSet
