use Rattle.std.proofs.Common.{◌≡◌, length, map, drop}
use Rattle.rob_number.specs.Counts.{NeverFell}
use Rattle.rob_cert.specs.View.{cover_of}
use Rattle.rob_check.specs.Covers.{rows_within}
use Rattle.rob_check.specs.LiftedSet.{lifted_of, numbers_in}
use Rattle.rob_check.specs.View.{NameRows}
use Rattle.rob_check.proofs.CoverLemmas.{rows_left}
use Rattle.rob_check.proofs.covers.rows_sum.Given as goal

-- the sum so far, with the multipliers that are left, is the whole
abbrev pub invariant-loop-cover : goal.invariant-loop-cover
invariant-loop-cover g l =
    let value = g.N.Exact.value in
    record {
      rest : rows_left value g.N.Exact.limit (numbers_in (lifted_of l.set) l.column) l.mine l.cover-index (value l.sum)
          ≡ rows_within g.N.Exact.limit (map (cover_of value) l.mine) (numbers_in (lifted_of l.set) l.column);
      names : NameRows (length l.set.rows) (map (cover_of value) (drop l.cover-index l.mine));
      counted : NeverFell g.L.Ledger.ops g.L.Ledger.wides l.fn.ledger l.ledger;
    }
