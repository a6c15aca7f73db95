use Rattle.std.proofs.Common.{◌≡◌, ◌+◌, map, drop}
use Rattle.rob_number.specs.Counts.{NeverFell}
use Rattle.rob_check.specs.Conditions.{set_tests}
use Rattle.rob_check.specs.Scenario.{taken_place}
use Rattle.rob_check.specs.Verdicts.{verdict}
use Rattle.rob_meaning.specs.Places.{Each}
use Rattle.rob_meaning.specs.SetConditions.{all_stated}
use Rattle.rob_meaning.specs.WellFormed.{IsSetLine}
use Rattle.rob_model.specs.View.{robust, set_line_of}
use Rattle.rob_check.proofs.scenario.check_statements.Given as goal

-- the statements so far hold, so the verdict is that on those that are left
abbrev pub invariant-loop-line : goal.invariant-loop-line
invariant-loop-line g l =
    let value = g.N.Exact.value in
    let m = robust value l.model in
    let tests = set_tests g.N.Exact.limit m (taken_place l.taken) (value l.base) (map value l.vector) in
    record {
      rest : verdict (tests l.index (all_stated (map (set_line_of value) (drop l.line-index l.model.set_lines))))
          ≡ verdict (tests l.first (all_stated (map (set_line_of value) l.model.set_lines)));
      lines : Each (IsSetLine m) (map (set_line_of value) (drop l.line-index l.model.set_lines));
      number : l.index ≡ l.first + l.line-index;
      counted : NeverFell g.L.Ledger.ops g.L.Ledger.wides l.fn.ledger l.ledger;
    }
