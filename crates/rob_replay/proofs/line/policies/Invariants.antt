use Rattle.std.proofs.Common.{◌≡◌, ◌≤◌, drop, map, length}
use Rattle.rob_model.specs.View.{adaptive_of, plan_of, robust, scenario_of}
use Rattle.rob_replay.specs.Gathering.{all_of, gathered}
use Rattle.rob_replay.specs.Lines.{policies_within}
use Rattle.rob_replay.proofs.line.policies.Given as goal

-- the values so far, and those that are left
abbrev pub invariant-loop-k : goal.invariant-loop-k
invariant-loop-k g l =
    let value = g.N.Exact.value in
    let left = policies_within g.N.Exact.limit (robust value l.model) (plan_of value l.plan)
    (scenario_of value l.scenario) in
    record {
      rest : gathered (map value l.values) (left l.k (map (adaptive_of value) (drop l.k l.model.adaptives)))
          ≡ all_of (left 0 (map (adaptive_of value) l.model.adaptives));
      count : l.count ≡ length l.model.adaptives;
      ops : g.L.Ledger.ops l.fn.ledger ≤ g.L.Ledger.ops l.ledger;
      wides : g.L.Ledger.wides l.fn.ledger ≤ g.L.Ledger.wides l.ledger;
    }
