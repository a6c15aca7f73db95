-- Multipliers of the set rows: what shows that a form is kept in every scenario,
-- and what shows that there is no scenario. This is Farkas's lemma, and its affine
-- form: Schrijver, Theory of Linear and Integer Programming (1986), chapter 7.
use Rattle.std.specs.Prelude.{◌≡◌, ◌≢◌, ◌<◌, ℕ, List, ◌++◌, length, map}
use Rattle.rob_algebra.specs.Fraction.{Fraction, of_int, ◌+ℚ◌, ◌*ℚ◌, ◌≤ℚ◌, ◌<ℚ◌}
use Rattle.rob_algebra.specs.FractionLists.{AllNonneg}
use Rattle.rob_meaning.specs.Forms.{constant_part, parameter_part}
use Rattle.rob_meaning.specs.Places.{0ℚ, at}
use Rattle.rob_meaning.specs.RobustModel.{RobustModel, set_count}
use Rattle.rob_meaning.specs.SetRows.{set_rows, set_of_set_row, set_column_count, lift_count, whole_row, whole_limit}
use Rattle.rob_meaning.specs.Vectors.{dot, scale, zeros, vec_mat}

module _ (m : RobustModel) where
  -- the coefficients of the set rows in whole numbers, as a matrix of fractions
  abbrev pub set_matrix : List (List Fraction)
  set_matrix = map (λ r. map of_int (whole_row m r)) (set_rows m)

  -- the right sides of the set rows in whole numbers, as fractions
  abbrev pub set_limits : List Fraction
  set_limits = map (λ r. of_int (whole_limit m r)) (set_rows m)

-- the amounts, one for each set row, cover form i at z: they are at least 0; the set rows times them sum to s times the
-- form's parameter part, and to 0 in the columns t; the right sides times them,
-- with s times its constant part, sum to at most 0
pub record Covers (m : RobustModel) (i : ℕ) (s : Fraction) (z amounts : List Fraction) : Type 0 where
  pub count : length amounts ≡ length (set_rows m)
  pub nonnegative : AllNonneg amounts
  pub columns : vec_mat (set_column_count m) amounts (set_matrix m)
      ≡ scale s (parameter_part m i z) ++ zeros (lift_count m.set_lines)
  pub constant : dot amounts (set_limits m) +ℚ s *ℚ constant_part m i z ≤ℚ 0ℚ

-- the weights, one for each set row, show that the set is empty: they are at least 0; the set rows times them sum to 0
-- in each set column; the right sides times them sum to less than 0
pub record ShowsEmpty (m : RobustModel) (weights : List Fraction) : Type 0 where
  pub count : length weights ≡ length (set_rows m)
  pub nonnegative : AllNonneg weights
  pub columns : vec_mat (set_column_count m) weights (set_matrix m) ≡ zeros (set_column_count m)
  pub negative : dot weights (set_limits m) <ℚ 0ℚ

-- the weights show that set S is empty: they show that the joint set is, and
-- each row with a weight other than 0 belongs to S
pub record ShowsEmptyIn (m : RobustModel) (S : ℕ) (weights : List Fraction) : Type 0 where
  pub is_set : S < set_count m
  pub shows : ShowsEmpty m weights
  pub own : (i : ℕ) → at weights i ≢ 0ℚ → set_of_set_row m i ≡ S
