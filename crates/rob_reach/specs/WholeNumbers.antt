-- Whole numbers among the fractions: floors, ceilings, and the size of a range.
-- Graham, Knuth, Patashnik, Concrete Mathematics (1994), chapter 3.
use Rattle.std.specs.Prelude.{◌≡◌, ℕ, zero, suc, ◌/◌, ℤ, pos, negsuc, neg_ℤ, ◌+ℤ◌, ◌-ℤ◌}
use Rattle.rob_algebra.specs.Fraction.{Fraction}

-- the fraction is a whole number: in lowest terms, its denominator is 1
abbrev pub IsWhole : Fraction → Type 0
IsWhole x = x.den ≡ 1

-- n / d rounded down; a negsuc n is -(n + 1)
abbrev pub rounded_down : ℤ → ℕ → ℤ
rounded_down (pos n) d = pos (n / d)
rounded_down (negsuc n) d = negsuc (n / d)

-- the greatest whole number that is at most x
abbrev pub floor : Fraction → ℤ
floor x = rounded_down x.num x.den

-- the least whole number that is at least x: minus the floor of -x
abbrev pub ceiling : Fraction → ℤ
ceiling x = neg_ℤ (rounded_down (neg_ℤ x.num) x.den)

-- a count, or 1 where that is less
abbrev pub at_least_1 : ℤ → ℕ
at_least_1 (pos zero) = 1
at_least_1 (pos (suc n)) = suc n
at_least_1 (negsuc n) = 1

-- how many whole numbers there are from the floor of the lower bound to the
-- ceiling of the upper one, or 1 where that is less
abbrev pub range : Fraction → Fraction → ℕ
range lower upper = at_least_1 (ceiling upper -ℤ floor lower +ℤ pos 1)
