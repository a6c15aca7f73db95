use Rattle.std.proofs.Common.{◌≡◌, map}
use Rattle.rob_number.specs.Counts.{NeverFell}
use Rattle.rob_algebra.specs.Fraction.{of_int}
use Rattle.rob_check.specs.Sums.{dot_within}
use Rattle.rob_check.specs.View.{covering_of}
use Rattle.rob_check.proofs.CoverLemmas.{row_left}
use Rattle.rob_check.proofs.covers.row_number.Given as goal

-- the sum so far, with the columns that are left, is the whole
abbrev pub invariant-loop-j : goal.invariant-loop-j
invariant-loop-j g l =
    let value = g.N.Exact.value in
    record {
      rest : row_left value g.N.Exact.limit (value l.covering.bound) l.covering.columns.now l.row l.j (value l.sum)
          ≡ dot_within g.N.Exact.limit (covering_of value l.covering).vector (map of_int l.row);
      counted : NeverFell g.L.Ledger.ops g.L.Ledger.wides l.fn.ledger l.ledger;
    }
