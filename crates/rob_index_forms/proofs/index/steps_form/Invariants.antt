use Rattle.std.proofs.Common.{◌≡◌, ◌≤◌, length, map, drop}
use Rattle.rob_index.specs.Fast.{steps_form}
use Rattle.rob_syntax.specs.Seen.{seen_step}
use Rattle.rob_index_forms.proofs.index.steps_form.Given as goal

-- the steps behind this place are summed
abbrev pub invariant-back : goal.invariant-back
invariant-back l = record {
  within : l.k ≤ length l.steps;
  so_far : l.form ≡ steps_form l.names (map seen_step (drop l.k l.steps));
}

abbrev pub decreases-back : goal.decreases-back
decreases-back l = l.k
