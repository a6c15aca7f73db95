use Rattle.std.proofs.Common.{◌≡◌, ◌≤◌, ◌*◌, ◌++◌, map, drop}
use Rattle.rob_number.specs.Counts.{NeverFell}
use Rattle.rob_check.specs.Conditions.{set_tests}
use Rattle.rob_check.specs.Scenario.{taken_place}
use Rattle.rob_check.specs.Verdicts.{verdict}
use Rattle.rob_meaning.specs.SetConditions.{all_stated, bounds_from, set_conditions}
use Rattle.rob_model.specs.View.{parameter_of, robust, set_line_of}
use Rattle.rob_check.proofs.scenario.check_vector.Given as goal

-- the bounds so far hold, so the verdict is that on the conditions that are left
abbrev pub invariant-loop-k : goal.invariant-loop-k
invariant-loop-k g l =
    let value = g.N.Exact.value in
    let m = robust value l.model in
    let tests = set_tests g.N.Exact.limit m (taken_place l.taken) (value l.base) (map value l.vector) in
    record {
      rest : verdict
          (tests l.index
          (bounds_from l.k (map (parameter_of value) (drop l.k l.model.params))
          ++ all_stated (map (set_line_of value) l.model.set_lines)))
          ≡ verdict (tests 0 (set_conditions m));
      small : l.index ≤ 2 * l.k;
      counted : NeverFell g.L.Ledger.ops g.L.Ledger.wides l.fn.ledger l.ledger;
    }
