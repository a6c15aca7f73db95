use Rattle.std.proofs.Common.{◌≡◌, ◌+◌, ◌∷◌, map}
use Rattle.rob_number.specs.Counts.{NeverFell}
use Rattle.rob_check.specs.Sums.{dot_within, column as column_of}
use Rattle.rob_meaning.specs.Clearing.{fractions}
use Rattle.rob_check.proofs.SumLemmas.{cut_left}
use Rattle.rob_check.proofs.items.cut_at.Given as goal

-- the sum so far, with what is left, is the whole
abbrev pub invariant-loop-k : goal.invariant-loop-k
invariant-loop-k g l =
    let value = g.N.Exact.value in
    record {
      rest : cut_left value g.N.Exact.limit l.column l.vector l.k l.form (l.k + 1) (value l.sum)
          ≡ dot_within g.N.Exact.limit (value l.fn.base ∷ map value l.vector) (column_of l.column (fractions l.form));
      counted : NeverFell g.L.Ledger.ops g.L.Ledger.wides l.fn.ledger l.ledger;
    }
