-- A pivot: a row clears the others, a column comes to a position; how one that was begun is ended.
pub mod Replacing
pub mod TableClearing
pub mod PivotLemmas
pub mod BrokenPivots
pub mod BegunTurns
pub mod BegunWork
