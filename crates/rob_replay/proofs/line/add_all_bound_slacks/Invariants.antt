use Rattle.std.proofs.Common.{◌≡◌, ◌≤◌, map}
use Rattle.rob_replay.proofs.LineLemmas.{bounds_left}
use Rattle.rob_replay.specs.Gathering.{gathered}
use Rattle.rob_replay.proofs.line.add_all_bound_slacks.Given as goal

-- the slacks so far, and those that are left
abbrev pub invariant-loop-k : goal.invariant-loop-k
invariant-loop-k g l =
    let value = g.N.Exact.value in
    record {
      rest : gathered (map value l.slacks) (bounds_left value g.N.Exact.limit l.adaptives l.values l.k)
          ≡ gathered (map value l.fn.slacks) (bounds_left value g.N.Exact.limit l.adaptives l.values 0);
      ops : g.L.Ledger.ops l.fn.ledger ≤ g.L.Ledger.ops l.ledger;
      wides : g.L.Ledger.wides l.fn.ledger ≤ g.L.Ledger.wides l.ledger;
    }
