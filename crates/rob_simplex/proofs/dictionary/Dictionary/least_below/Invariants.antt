-- best is below 0 on its right side, and is the least of the rows that were looked at, the last ones.
use Rattle.std.specs.Prelude.{Some}
use Rattle.rob_simplex.specs.Dictionaries.{positions, rows_of}
use Rattle.rob_simplex.specs.LeastRows.{IsBelowZero}
use Rattle.rob_simplex.proofs.Leaving.LeastRows.{IsLeastSoFar}
use Rattle.rob_simplex.proofs.dictionary.Dictionary.least_below.Given as goal

abbrev pub invariant-loop-passed : goal.invariant-loop-passed
invariant-loop-passed g l = record {
  least : IsLeastSoFar l.fn.self.columns (positions l.fn.self) (rows_of l.fn.self) l.fn.column l.passed (Some l.best);
  below : IsBelowZero l.fn.self l.fn.column l.best;
}
