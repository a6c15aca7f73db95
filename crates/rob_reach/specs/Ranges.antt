-- The ranges of the named variables, and the rules that bound the search.
use Rattle.std.specs.Prelude.{ℕ, zero, suc, ◌*◌, ◌≤◌, ◌<◌, leb, Bool, true, false, ◌&&◌, T, if◌then◌else◌, List, [], ◌∷◌, length, Option, Some, None}
use Rattle.rob_algebra.specs.Fraction.{Fraction}
use Rattle.rob_meaning.specs.Named.{AreDistinct}
use Rattle.rob_meaning.specs.Places.{Each}
use Rattle.rob_meaning.specs.RobustModel.{Variable, RobustModel}
use Rattle.rob_reach.specs.WholeNumbers.{range}

-- whether both bounds are declared
abbrev pub has_both : Option Fraction → Option Fraction → Bool
has_both None upper = false
has_both (Some l) None = false
has_both (Some l) (Some b) = true

-- whether variable j exists and has both bounds
abbrev pub is_bounded : List Variable → ℕ → Bool
is_bounded [] j = false
is_bounded (x ∷ xs) zero = has_both x.lower x.upper
is_bounded (x ∷ xs) (suc j) = is_bounded xs j

-- whether each of the named variables does
abbrev pub are_bounded : List Variable → List ℕ → Bool
are_bounded xs [] = true
are_bounded xs (j ∷ names) = is_bounded xs j && are_bounded xs names

-- the range of two declared bounds; 1 where one is lacking
abbrev pub range_between : Option Fraction → Option Fraction → ℕ
range_between None upper = 1
range_between (Some l) None = 1
range_between (Some l) (Some b) = range l b

-- the range of variable j
abbrev pub range_at : List Variable → ℕ → ℕ
range_at [] j = 1
range_at (x ∷ xs) zero = range_between x.lower x.upper
range_at (x ∷ xs) (suc j) = range_at xs j

-- the product of the ranges of the named variables: the measure of the search
abbrev pub product_of_ranges : List Variable → List ℕ → ℕ
product_of_ranges xs [] = 1
product_of_ranges xs (j ∷ names) = range_at xs j * product_of_ranges xs names

-- rule 61 is kept: each named variable exists, and none is named twice
pub record KeepsNames (m : RobustModel) (names : List ℕ) : Type 0 where
  pub inside : Each (λ j. j < length m.variables) names
  pub distinct : AreDistinct names

-- rule 62 is kept: each named variable has both bounds
abbrev pub KeepsBothBounds : RobustModel → List ℕ → Type 0
KeepsBothBounds m names = T (are_bounded m.variables names)

-- rule 63 is kept: the product of the ranges is at most 1,000
abbrev pub KeepsRanges : RobustModel → List ℕ → Type 0
KeepsRanges m names = product_of_ranges m.variables names ≤ 1000

-- the first of the rules 62 and 63 that is broken
abbrev pub whole_rule : RobustModel → List ℕ → Option ℕ
whole_rule m names =
    if are_bounded m.variables names
    then (if leb (product_of_ranges m.variables names) 1000 then None else Some 63)
    else Some 62
