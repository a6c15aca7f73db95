-- best may be the least, and is the least of the rows that were looked at, the last ones; the marks are right.
use Rattle.rob_simplex.specs.Dictionaries.{positions, rows_of}
use Rattle.rob_simplex.specs.LeastRows.{AreKnown}
use Rattle.rob_simplex.proofs.Leaving.LeastRows.{IsLeastSoFar}
use Rattle.rob_simplex.proofs.dictionary.Dictionary.least_negative.Given as goal

abbrev pub invariant-loop-passed : goal.invariant-loop-passed
invariant-loop-passed g l = record {
  least : IsLeastSoFar l.fn.self.columns (positions l.fn.self) (rows_of l.fn.self) l.fn.column l.passed l.best;
  known : AreKnown l.fn.self l.known;
}
