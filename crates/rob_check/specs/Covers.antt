-- The conditions of covers and of holds: by these multipliers of set rows each form is covered, as it is computed
-- within a limit.
use Rattle.std.specs.Prelude.{ℕ, zero, suc, ℤ, nat_eq, List, [], ◌∷◌, ◌++◌, map, Option, Some}
use Rattle.std.specs.List.{filter}
use Rattle.rob_algebra.specs.Fraction.{Fraction, ◌+ℚ◌, ◌*ℚ◌}
use Rattle.rob_algebra.specs.FractionOrder.{eq_ℚ}
use Rattle.rob_algebra.specs.Width.{kept}
use Rattle.rob_meaning.specs.Certificates as meaning
use Rattle.rob_meaning.specs.Clearing.{fractions}
use Rattle.rob_meaning.specs.Places.{0ℚ, at}
use Rattle.rob_model.specs.Within.{◌>>=◌, is_at_most}
use Rattle.rob_model.specs.declared.place.Place.{Place}
use Rattle.rob_model.specs.declared.place.Place.TheVariants as At
use Rattle.rob_check.specs.LiftedSet.{LiftedSet}
use Rattle.rob_check.specs.Sums.{added_within, dot_within, column, row_at, numbers_from, is_nonnegative}
use Rattle.rob_check.specs.Verdicts.{Condition}
use Rattle.rob_check.specs.declared.covering.Covered.{Covered}
use Rattle.rob_check.specs.declared.covering.Covered.TheVariants.{Plan, Step}

-- the place of a multiplier's sign, by form and set row
abbrev pub sign_place : Covered → ℕ → ℕ → Place
sign_place Plan i r = At.CoverSign i r
sign_place Step i r = At.HoldSign i r

-- the place of a sum: 0 is the constant, other numbers are set columns from 1
abbrev pub cover_place : Covered → ℕ → ℕ → Place
cover_place Plan i k = At.Cover i k
cover_place Step i k = At.Hold i k

-- what is covered: at the vector z, with a scale, by multipliers of set rows
pub record Covering : Type 0 where
  pub covered : Covered
  pub scale : Fraction
  pub vector : List Fraction
  pub covers : List meaning.Cover

-- the multipliers of form i
abbrev pub covers_of : ℕ → List meaning.Cover → List meaning.Cover
covers_of i covers = filter (λ (c : meaning.Cover). nat_eq c.form i) covers

-- the multipliers times the numbers that set rows have, added up
abbrev pub rows_within : ℕ → List meaning.Cover → List Fraction → Option Fraction
rows_within limit mine numbers =
    added_within limit 0ℚ (map (λ (c : meaning.Cover). kept limit (c.amount *ℚ at numbers c.set_row)) mine)

-- the scale times the form's number at the vector: row 0 is the constant, row k + 1 parameter k. A column t has no row,
-- so its number is 0
abbrev pub form_within : ℕ → Covering → List (List Fraction) → ℕ → Option Fraction
form_within limit g form k = dot_within limit g.vector (row_at form k) >>= (λ x. kept limit (g.scale *ℚ x))

-- the multiplier isn't below 0
abbrev pub sign_test : Covering → ℕ → meaning.Cover → Condition
sign_test g i c = record { place = sign_place g.covered i c.set_row; holds = Some (is_nonnegative c.amount) }

module _ (limit : ℕ) (set : LiftedSet) (g : Covering) where
  module _ (i : ℕ) (form : List (List Fraction)) (mine : List meaning.Cover) where
    -- in set column k the rows sum to the form
    abbrev pub column_test : ℕ → Condition
    column_test k = record {
      place = cover_place g.covered i (suc k);
      holds =
          rows_within limit mine (column k set.rows)
          >>= (λ rows. form_within limit g form (suc k) >>= (λ x. Some (eq_ℚ rows x)));
    }

    -- the right sides with the form's constant part are at most 0
    abbrev pub constant_test : Condition
    constant_test = record {
      place = cover_place g.covered i zero;
      holds =
          rows_within limit mine set.limits
          >>= (λ rows.
          form_within limit g form zero >>= (λ x. kept limit (rows +ℚ x) >>= (λ total. Some (is_at_most total 0ℚ))));
    }

    -- the sums, in each set column and last in the constant
    abbrev pub column_tests : List Condition
    column_tests = map column_test (numbers_from zero set.columns) ++ constant_test ∷ []

    -- form i is covered
    abbrev pub form_tests : List Condition
    form_tests = map (sign_test g i) mine ++ column_tests

  -- each form is covered, the first having number i
  abbrev pub cover_tests : ℕ → List (List (List ℤ)) → List Condition
  cover_tests i [] = []
  cover_tests i (form ∷ forms) =
      form_tests i (fractions form) (covers_of i g.covers) ++ cover_tests (suc i) forms
