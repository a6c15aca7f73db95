-- The linear program of a set form: its points are those of the lifted set, and it has no cost.
use Rattle.std.specs.Prelude.{◌≡◌, ℤ, pos, neg_ℤ, List, [], ◌∷◌, length, map}
use Rattle.rob_linear.specs.Vectors.{at}
use Rattle.rob_linear.specs.Programs.{Program}
use Rattle.rob_meaning.specs.Places.{Each}
use Rattle.rob_counterpart.specs.Counterpart.{cell}
use Rattle.rob_counterpart.specs.RobustProgram.{RobustProgram}
use Rattle.rob_counterpart.specs.SetPrograms.{IsOverSet, HasCost}
use Rattle.rob_sets.specs.declared.set_form.SetForm.{SetForm}
use Rattle.rob_sets.specs.declared.set_form.SetRow.{SetRow}

-- each row has a number for each set column
abbrev pub HasWholeRows : SetForm → Type 0
HasWholeRows set = Each (λ (row : SetRow). length row.g ≡ set.columns) set.rows

-- the coefficients of each row, and the right sides
abbrev pub left_sides : List SetRow → List (List ℤ)
left_sides rows = map (λ (row : SetRow). row.g) rows

-- the right sides of set rows
abbrev pub right_sides : List SetRow → List ℤ
right_sides rows = map (λ (row : SetRow). row.h) rows

-- a set form as a robust program without forms and decisions
abbrev pub robust_set : SetForm → RobustProgram
robust_set set = record {
  forms = 0;
  parameters = 0;
  decisions = 0;
  set_rows = length set.rows;
  set_columns = set.columns;
  form = λ i k j. pos 0;
  left = λ r c. cell (left_sides set.rows) r c;
  right = at (right_sides set.rows);
  sense = pos 0;
}

-- P has the rows of the set, each column split in two, and no cost
pub record IsOverRobust (d : RobustProgram) (P : Program) : Type 0 where
  pub over_set : IsOverSet d P
  pub open over_set use *
  pub cost : HasCost d (λ c. pos 0) P
  pub open cost use *

-- each number, and behind it its negation
abbrev pub in_pairs : List ℤ → List ℤ
in_pairs [] = []
in_pairs (number ∷ numbers) = number ∷ (neg_ℤ number ∷ in_pairs numbers)
