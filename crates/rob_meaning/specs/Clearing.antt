-- Fractions times their least common denominator.
use Rattle.std.specs.Prelude.{◌≡◌, ℕ, ◌*◌, ◌/◌, ℤ, pos, ◌*ℤ◌, List, [], ◌∷◌, ◌++◌, map}
use Rattle.rob_algebra.specs.Fraction.{Fraction, of_int, ◌*ℚ◌}
use Rattle.rob_algebra.specs.Gcd.{gcd}

-- the least common multiple of two positive numbers
abbrev pub lcm : ℕ → ℕ → ℕ
lcm a b = (a / gcd a b) * b

-- the least common denominator: the least positive number that makes each fraction whole
abbrev pub denominator : List Fraction → ℕ
denominator [] = 1
denominator (q ∷ qs) = lcm q.den (denominator qs)

-- the number d makes the fraction whole: d times q is a whole number
abbrev pub MakesWhole : ℕ → Fraction → Type 0
MakesWhole d q = (n : ℤ) × (of_int (pos d) *ℚ q ≡ of_int n)

-- d times q, where that is whole
abbrev pub whole_at : ℕ → Fraction → ℤ
whole_at d q = q.num *ℤ pos (d / q.den)

-- the entries of all rows of a matrix, row by row
abbrev pub entries : List (List Fraction) → List Fraction
entries [] = []
entries (row ∷ rows) = row ++ entries rows

-- a matrix times the least common denominator of all its entries
abbrev pub cleared : List (List Fraction) → List (List ℤ)
cleared rows = map (map (whole_at (denominator (entries rows)))) rows

-- a whole matrix as one of fractions
abbrev pub fractions : List (List ℤ) → List (List Fraction)
fractions rows = map (map of_int) rows
