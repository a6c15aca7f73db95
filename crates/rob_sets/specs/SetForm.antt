-- The lifted set of a model in whole numbers, as the program holds it; and what is judged on the way to it, in order.
use Rattle.std.specs.Prelude.{◌≡◌, ℕ, zero, suc, ◌+◌, ◌≤◌, nat_abs, List, [], ◌∷◌, ◌++◌, length, map}
use Rattle.rob_algebra.specs.Fraction.{Fraction, of_int, ◌*ℚ◌, ◌≤ℚ◌}
use Rattle.rob_meaning.specs.Expressions.{Expression}
use Rattle.rob_meaning.specs.Forms.{sides}
use Rattle.rob_meaning.specs.Places.{Each}
use Rattle.rob_meaning.specs.RobustModel.{SetLine, line, budget, RobustModel}
use Rattle.rob_meaning.specs.SetRows as meaning
use Rattle.rob_meaning.specs.SetRows.{bound_rows, budget_row, coefficients, expression_row, lift_count, member_rows, set_column_count, set_rows, whole_limit, whole_row}
use Rattle.rob_meaning.specs.Vectors.{dot}
use Rattle.rob_model.specs.declared.place.Where.TheVariants as Where
use Rattle.rob_sets.specs.FirstWide as judge
use Rattle.rob_sets.specs.FirstWide.{Judged}
use Rattle.rob_sets.specs.declared.set_form.SetForm.{SetForm}
use Rattle.rob_sets.specs.declared.set_form.SetRow.{SetRow}

-- a set row in whole numbers
abbrev pub cleared_row : RobustModel → meaning.SetRow → SetRow
cleared_row m r = record { g = whole_row m r; h = whole_limit m r }

-- the set form is the lifted set of the model, cleared row by row
pub record IsSetForm (m : RobustModel) (set : SetForm) : Type 0 where
  pub columns : set.columns ≡ set_column_count m
  pub rows : set.rows ≡ map (cleared_row m) (set_rows m)

-- each number of a set row is at most the limit in size
pub record RowFits (limit : ℕ) (row : SetRow) : Type 0 where
  pub coefficients : Each (λ a. nat_abs a ≤ limit) row.g
  pub right_side : nat_abs row.h ≤ limit

-- each number of a set form is at most the limit in size
abbrev pub SetFits : ℕ → SetForm → Type 0
SetFits limit set = Each (RowFits limit) set.rows

-- each row holds in the set columns, its right side taken s times
abbrev pub MeetsRows : SetForm → Fraction → List Fraction → Type 0
MeetsRows set s columns = Each (λ (row : SetRow). dot (map of_int row.g) columns ≤ℚ s *ℚ of_int row.h) set.rows

-- with some numbers in the columns t the vector meets the rows, their right sides taken s times
pub record IsCovered (m : RobustModel) (set : SetForm) (s : Fraction) (p : List Fraction) : Type 0 where
  pub lifts : List Fraction
  pub count : length lifts ≡ lift_count m.set_lines
  pub numbers : length p ≡ length m.parameters
  pub rows : MeetsRows set s (p ++ lifts)

module _ (m : RobustModel) where
  -- the clearing of a set row, by its number
  abbrev pub judged_row : ℕ → meaning.SetRow → Judged
  judged_row r row = judge.clearing (Where.SetRow r) (row.limit ∷ coefficients m row)

  -- rows without an expression are cleared one by one, the first having number `r`
  abbrev pub judged_rows : ℕ → List meaning.SetRow → List Judged
  judged_rows r [] = []
  judged_rows r (row ∷ rows) = judged_row r row ∷ judged_rows (suc r) rows

  -- of each difference of statement `i` the coefficients, and then the clearing of its row, the first having number `r`
  abbrev pub judged_sides : ℕ → ℕ → List Expression → List Judged
  judged_sides i r [] = []
  judged_sides i r (e ∷ es) =
      judge.coefficients (Where.SetLine i) e ∷ (judged_row r (expression_row m e) ∷ judged_sides i (suc r) es)

  -- the statements, where the next one has number `i`, the next column t number `t` and the next set row number `r`
  abbrev pub judged_statements : ℕ → ℕ → ℕ → List SetLine → List Judged
  judged_statements i t r [] = []
  judged_statements i t r (line left relation right ∷ rest) =
      let differences = sides relation left right in
      judged_sides i r differences ++ judged_statements (suc i) t (length differences + r) rest
  judged_statements i t r (budget limit members ∷ rest) =
      let rows = member_rows t members ++ budget_row t limit members ∷ [] in
      judged_rows r rows ++ judged_statements (suc i) (length members + t) (length rows + r) rest

  -- the set rows in order, the coefficients of a row before its clearing
  abbrev pub judged_set : List Judged
  judged_set =
      let bounds = bound_rows zero m.parameters in
      judged_rows zero bounds ++ judged_statements zero zero (length bounds) m.set_lines
