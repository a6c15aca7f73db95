-- The worst case of a form at a plan, and what shows it. Bertsimas, Dunning, Lubin, Reformulation versus cutting-planes
-- for robust optimization (2016).
use Rattle.std.specs.Prelude.{◌≡◌, ℕ, List, ◌++◌, length}
use Rattle.rob_algebra.specs.Fraction.{Fraction, of_int, ◌≤ℚ◌, ◌<ℚ◌}
use Rattle.rob_algebra.specs.FractionLists.{AllNonneg}
use Rattle.rob_linear.specs.Vectors.{Vector}
use Rattle.rob_meaning.specs.Forms.{form_columns, form_at, parameter_part}
use Rattle.rob_meaning.specs.Multipliers.{set_matrix, set_limits}
use Rattle.rob_meaning.specs.Places.{0ℚ, 1ℚ, tabulate}
use Rattle.rob_meaning.specs.RobustModel.{RobustModel}
use Rattle.rob_meaning.specs.SetConditions.{IsRay}
use Rattle.rob_meaning.specs.SetRows.{set_rows, set_column_count, lift_count}
use Rattle.rob_meaning.specs.UncertaintySet.{Admits}
use Rattle.rob_meaning.specs.Vectors.{dot, zeros, vec_mat}

-- a plan or direction in whole numbers, as a vector
abbrev pub whole_plan : RobustModel → Vector → List Fraction
whole_plan m z = tabulate (form_columns m) (λ j. of_int (z j))

-- the first number for each set row
abbrev pub row_amounts : RobustModel → (ℕ → Fraction) → List Fraction
row_amounts m y = tabulate (length (set_rows m)) y

-- The scenario is admitted, and form i is at no admitted scenario greater than there. The amounts show it: the set rows
-- times them sum to the form's parameter part, and the right sides times them to its value at the scenario.
pub record IsWorstCase (m : RobustModel) (i : ℕ) (z scenario amounts : List Fraction) : Type 0 where
  pub admitted : Admits m scenario
  pub worst : (u : List Fraction) → Admits m u → form_at m i 1ℚ u z ≤ℚ form_at m i 1ℚ scenario z
  pub count : length amounts ≡ length (set_rows m)
  pub nonnegative : AllNonneg amounts
  pub columns : vec_mat (set_column_count m) amounts (set_matrix m)
      ≡ parameter_part m i z ++ zeros (lift_count m.set_lines)
  pub peak : dot amounts (set_limits m) ≡ dot (parameter_part m i z) scenario

-- along the ray of the set form i grows without end
pub record GrowsAlong (m : RobustModel) (i : ℕ) (z ray : List Fraction) : Type 0 where
  pub is_ray : IsRay m ray
  pub grows : 0ℚ <ℚ form_at m i 0ℚ ray z
