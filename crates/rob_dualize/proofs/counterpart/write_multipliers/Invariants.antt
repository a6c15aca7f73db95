-- The numbers at the columns before k are written.
use Rattle.std.specs.Prelude.{◌≡◌, ◌⊎◌, ℕ, ◌<◌, ◌≤◌}
use Rattle.rob_linear.specs.Vectors.{at}
use Rattle.rob_counterpart.specs.Reform.{multiplier, row_entry}
use Rattle.rob_dualize.specs.Wholes.{wholes}
use Rattle.rob_dualize.proofs.counterpart.write_multipliers.Given as goal

abbrev pub invariant-loop-k : goal.invariant-loop-k
invariant-loop-k l = record {
  written : (j : ℕ) → multiplier (wholes l.fn.model.forms.now l.fn.model.set.now) l.fn.i 0 ≤ j → j < l.k
      → at l.numbers j ≡ row_entry (wholes l.fn.model.forms.now l.fn.model.set.now) l.fn.i l.fn.p j;
  others : (j : ℕ) → (j < multiplier (wholes l.fn.model.forms.now l.fn.model.set.now) l.fn.i 0) ⊎ (l.k ≤ j)
      → at l.numbers j ≡ at l.fn.numbers j;
}
