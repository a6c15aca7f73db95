-- What a search is set: the least common denominator of its vector, the form's constant part at the cleared vector, and
-- the costs, which are the form's other parts.
use Rattle.std.specs.Prelude.{◌≡◌, ℕ, ◌≤◌, Bool, ℤ, pos, nat_abs, List, length}
use Rattle.rob_algebra.specs.Fraction.{Fraction}
use Rattle.rob_linear.specs.Vectors.{sum_to, at}
use Rattle.rob_linear.specs.Programs.{with_cost}
use Rattle.rob_meaning.specs.Clearing.{denominator}
use Rattle.rob_meaning.specs.Forms.{form_columns}
use Rattle.rob_meaning.specs.RobustModel.{RobustModel}
use Rattle.rob_counterpart.specs.Counterpart.{robust_of, set_program}
use Rattle.rob_counterpart.specs.RobustProgram.{number_at}
use Rattle.rob_counterpart.specs.SetPrograms.{HasCost}
use Rattle.rob_runs.specs.Cuts.{wholes}
use Rattle.rob_runs.specs.Spots.{cost_term}
use Rattle.rob_rows.specs.PrimitiveParts.{IsWithin}
use Rattle.rob_dualize.specs.SetProgram.{in_pairs}
use Rattle.rob_worst.specs.declared.task.Task.{Task}

-- it can be put on a program of a set with so many columns: each parameter is one, and there is a cost for each set
-- column, and its negation behind it; no number is over the limit in size
pub record FitsSet (limit columns : ℕ) (task : Task) : Type 0 where
  pub parameters : task.params ≤ columns
  pub numbers : List ℤ
  pub count : length numbers ≡ columns
  pub costs : task.cost ≡ in_pairs numbers
  pub within : IsWithin limit task.cost
  pub common_within : nat_abs task.common ≤ limit
  pub constant_within : nat_abs task.constant ≤ limit

-- it is the search for form i at the plan z, or by step at the direction z
pub record IsTaskOf (m : RobustModel) (by_step : Bool) (i : ℕ) (z : List Fraction) (task : Task) : Type 0 where
  pub form : task.form ≡ i
  pub step : task.by_step ≡ by_step
  pub parameters : task.params ≡ length m.parameters
  pub common : task.common ≡ pos (denominator z)
  pub constant : task.constant ≡ sum_to (form_columns m) (cost_term m i 0 z)
  pub costs : HasCost (robust_of m) (λ c. number_at (robust_of m) i c (at (wholes z)))
      (with_cost (set_program m) (at task.cost))
