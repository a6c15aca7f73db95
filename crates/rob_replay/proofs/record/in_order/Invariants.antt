use Rattle.std.proofs.Common.{◌≡◌, ◌≤◌, ◌++◌, drop, map}
use Rattle.rob_replay.specs.Headers.{scenario_at}
use Rattle.rob_replay.proofs.record.in_order.Given as goal

-- the values so far, and those that are left
abbrev pub invariant-loop-place : goal.invariant-loop-place
invariant-loop-place g l =
    let value = g.N.Exact.value in
    record {
      rest : map value l.values ++ scenario_at (drop l.place-index l.places) (map value l.numbers)
          ≡ scenario_at l.places (map value l.numbers);
      ops : g.L.Ledger.ops l.fn.ledger ≤ g.L.Ledger.ops l.ledger;
      wides : g.L.Ledger.wides l.fn.ledger ≤ g.L.Ledger.wides l.ledger;
    }
