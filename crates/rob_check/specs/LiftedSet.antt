-- The lifted set as a matrix with right sides, of a model and of a set form.
use Rattle.std.specs.Prelude.{ℕ, List, map, Option, Some, None}
use Rattle.rob_algebra.specs.Fraction.{Fraction, of_int}
use Rattle.rob_meaning.specs.Multipliers.{set_limits, set_matrix}
use Rattle.rob_meaning.specs.RobustModel.{RobustModel}
use Rattle.rob_meaning.specs.SetRows.{set_column_count}
use Rattle.rob_sets.specs.declared.set_form.SetForm.{SetForm}
use Rattle.rob_sets.specs.declared.set_form.SetRow.{SetRow}
use Rattle.rob_check.specs.Sums.{column}

-- the number of set columns, the rows of coefficients, and their right sides
pub record LiftedSet : Type 0 where
  pub columns : ℕ
  pub rows : List (List Fraction)
  pub limits : List Fraction

-- that of a model
abbrev pub lifted : RobustModel → LiftedSet
lifted m = record { columns = set_column_count m; rows = set_matrix m; limits = set_limits m }

-- that of a set form
abbrev pub lifted_of : SetForm → LiftedSet
lifted_of set = record {
  columns = set.columns;
  rows = map (λ (row : SetRow). map of_int row.g) set.rows;
  limits = map (λ (row : SetRow). of_int row.h) set.rows;
}

-- the numbers of a set column, or, with none, the right sides: one of each row
abbrev pub numbers_in : LiftedSet → Option ℕ → List Fraction
numbers_in set (Some k) = column k set.rows
numbers_in set None = set.limits
