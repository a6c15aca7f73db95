-- Sums and scalar products as they are computed: from the left, each product and each prefix in turn, and nothing where
-- one of these numbers is wide. And the tests that numbers are put to.
use Rattle.std.specs.Prelude.{ℕ, zero, suc, List, [], ◌∷◌, map, Bool, true, false, Option, Some, if◌then◌else◌}
use Rattle.rob_algebra.specs.Fraction.{Fraction, ◌+ℚ◌, ◌*ℚ◌}
use Rattle.rob_algebra.specs.Width.{kept}
use Rattle.rob_meaning.specs.Places.{0ℚ, at}
use Rattle.rob_model.specs.Within.{◌>>=◌, is_at_most}

module _ (limit : ℕ) where
  -- the sum so far with a part
  abbrev pub with_part : Fraction → Option Fraction → Option Fraction
  with_part so_far part = part >>= (λ x. kept limit (so_far +ℚ x))

  -- parts, each computed when it is its turn, added to the sum so far
  abbrev pub added_within : Fraction → List (Option Fraction) → Option Fraction
  added_within so_far [] = Some so_far
  added_within so_far (part ∷ parts) = with_part so_far part >>= (λ next. added_within next parts)

  -- the products of the entries at the same places
  abbrev pub products : List Fraction → List Fraction → List (Option Fraction)
  products [] ys = []
  products (x ∷ xs) [] = []
  products (x ∷ xs) (y ∷ ys) = kept limit (x *ℚ y) ∷ products xs ys

  -- the scalar product
  abbrev pub dot_within : List Fraction → List Fraction → Option Fraction
  dot_within xs ys = added_within 0ℚ (products xs ys)

-- ---- matrices
-- the numbers in column j, one of each row
abbrev pub column : ℕ → List (List Fraction) → List Fraction
column j rows = map (λ (row : List Fraction). at row j) rows

-- row k; one without numbers past the end
abbrev pub row_at : List (List Fraction) → ℕ → List Fraction
row_at [] k = []
row_at (row ∷ rows) zero = row
row_at (row ∷ rows) (suc k) = row_at rows k

-- n numbers in order, from k
abbrev pub numbers_from : ℕ → ℕ → List ℕ
numbers_from k zero = []
numbers_from k (suc n) = k ∷ numbers_from (suc k) n

-- ---- tests
abbrev pub is_nonnegative : Fraction → Bool
is_nonnegative x = is_at_most 0ℚ x

-- whether a number is above 0
abbrev pub is_positive : Fraction → Bool
is_positive x = if is_at_most x 0ℚ then false else true
