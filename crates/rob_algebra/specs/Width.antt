-- Which numbers fit a width. A limit bounds the size of a whole number, and both parts of a fraction in lowest terms.
use Rattle.std.specs.Prelude.{ℕ, ◌<◌, ◌≤◌, ℤ, nat_abs, ◌⊎◌, Bool, ◌||◌, nat_lt, cond, Option, Some, None}
use Rattle.rob_algebra.specs.Fraction.{Fraction}

-- the size of the numerator and the denominator, in lowest terms, are at most the limit
pub record Fits (limit : ℕ) (x : Fraction) : Type 0 where
  pub num_fits : nat_abs x.num ≤ limit
  pub den_fits : x.den ≤ limit

-- the size of the numerator or the denominator, in lowest terms, is over the limit
abbrev pub IsWide : ℕ → Fraction → Type 0
IsWide limit x = (limit < nat_abs x.num) ⊎ (limit < x.den)

-- the test of that
abbrev pub is_wide : ℕ → Fraction → Bool
is_wide limit x = nat_lt limit (nat_abs x.num) || nat_lt limit x.den

-- the fraction where it fits, and nothing where it is wide
abbrev pub kept : ℕ → Fraction → Option Fraction
kept limit x = cond (is_wide limit x) None (Some x)

-- a whole number is wide where its size is over the limit
abbrev pub IsWideWhole : ℕ → ℤ → Type 0
IsWideWhole limit z = limit < nat_abs z
