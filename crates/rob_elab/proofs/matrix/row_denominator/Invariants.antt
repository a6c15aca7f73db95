use Rattle.std.specs.Prelude.{◌≡◌, ◌<◌, ◌≤◌, ◌++◌, List}
use Rattle.rob_algebra.specs.Fraction.{Fraction}
use Rattle.rob_number.specs.Counts.{NeverFell}
use Rattle.rob_meaning.specs.Clearing.{denominator}
use Rattle.rob_meaning.specs.Places.{tabulate}
use Rattle.rob_sets.specs.Tables.{numbers_of}
use Rattle.rob_elab.proofs.matrix.row_denominator.Given as goal

-- the least common denominator of the numbers before and of those of the columns so far
abbrev pub invariant-loop-column : goal.invariant-loop-column
invariant-loop-column g l = record {
  least : (before : List Fraction) → l.common ≡ denominator before
      → l.least ≡ denominator (before ++ tabulate l.column (numbers_of g.N.Exact.value l.table l.row));
  positive : 0 < l.least;
  within : l.least ≤ g.N.Exact.limit;
  counted : NeverFell g.L.Ledger.ops g.L.Ledger.wides l.fn.ledger l.ledger;
}
