-- best is the first of the rows that were looked at, the last k ones.
use Rattle.rob_simplex.specs.Dictionaries.{positions, rows_of}
use Rattle.rob_simplex.proofs.Leaving.RatioTests.{IsFirstSoFar}
use Rattle.rob_simplex.proofs.dictionary.Dictionary.leaving_by.Given as goal

abbrev pub invariant-loop-passed : goal.invariant-loop-passed
invariant-loop-passed g l =
    IsFirstSoFar l.fn.self.columns (positions l.fn.self) (rows_of l.fn.self) l.fn.column l.passed l.best
