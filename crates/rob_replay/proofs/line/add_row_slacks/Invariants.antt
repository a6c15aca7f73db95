use Rattle.std.proofs.Common.{◌≡◌, ◌≤◌, drop, map}
use Rattle.rob_meaning.specs.Places.{Each}
use Rattle.rob_model.specs.View.{plan_of, robust, row_of, scenario_of}
use Rattle.rob_replay.proofs.LineLemmas.{slack_in}
use Rattle.rob_replay.specs.Gathering.{gathered}
use Rattle.rob_replay.specs.Lines.{HasInside}
use Rattle.rob_replay.proofs.line.add_row_slacks.Given as goal

-- the slacks so far, and those that are left
abbrev pub invariant-loop-row : goal.invariant-loop-row
invariant-loop-row g l =
    let value = g.N.Exact.value in
    let slack =
    slack_in value g.N.Exact.limit (robust value l.model) (plan_of value l.plan) (scenario_of value l.scenario) in
    record {
      rest : gathered (map value l.slacks) (map slack (drop l.row-index l.rows))
          ≡ gathered (map value l.fn.slacks) (map slack l.rows);
      inside : Each (HasInside (robust value l.model)) (map (row_of value) (drop l.row-index l.rows));
      ops : g.L.Ledger.ops l.fn.ledger ≤ g.L.Ledger.ops l.ledger;
      wides : g.L.Ledger.wides l.fn.ledger ≤ g.L.Ledger.wides l.ledger;
    }
