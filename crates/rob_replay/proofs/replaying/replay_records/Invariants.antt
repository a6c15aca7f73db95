use Rattle.std.proofs.Common.{◌≡◌, ◌≤◌, ◌+◌, drop, map}
use Rattle.csv.specs.Records.{fields_of}
use Rattle.rob_model.specs.View.{plan_of, robust}
use Rattle.rob_replay.proofs.OutcomeLemmas.{behind}
use Rattle.rob_replay.specs.Outcome.{records_outcome}
use Rattle.rob_replay.specs.View.{line_of}
use Rattle.rob_replay.proofs.replaying.replay_records.Given as goal

-- the lines so far, and those that are left
abbrev pub invariant-loop-i : goal.invariant-loop-i
invariant-loop-i g l =
    let value = g.N.Exact.value in
    let left = records_outcome g.N.Exact.limit (robust value l.model) (plan_of value l.plan) l.places in
    record {
      rest : behind (map (line_of value) l.lines) (left (l.i + 2) (map fields_of (drop l.i l.rows)))
          ≡ left 2 (map fields_of l.rows);
      ops : g.L.Ledger.ops l.fn.ledger ≤ g.L.Ledger.ops l.ledger;
      wides : g.L.Ledger.wides l.fn.ledger ≤ g.L.Ledger.wides l.ledger;
    }
