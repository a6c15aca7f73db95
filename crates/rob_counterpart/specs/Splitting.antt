-- Free columns in programs whose columns are at least 0: each is split in two, and the first of the pair counts
-- positively. Chvatal, Linear Programming (1983), chapter 1.
use Rattle.std.specs.Prelude.{◌≡◌, ℕ, suc, ◌+◌, ◌%◌, ◌⊎◌, nat_eq, cond, ℤ, neg_ℤ}
use Rattle.rob_algebra.specs.Fraction.{Fraction, ◌-ℚ◌}
use Rattle.rob_meaning.specs.Places.{0ℚ}

-- the first column of pair j
abbrev pub plus : ℕ → ℕ
plus j = j + j

-- the second one
abbrev pub minus : ℕ → ℕ
minus j = suc (j + j)

-- v in the first column of a pair, and its negation in the second
abbrev pub signed_entry : ℕ → ℤ → ℤ
signed_entry k v = cond (nat_eq (k % 2) 0) v (neg_ℤ v)

-- the number that pair j stands for
abbrev pub difference : (ℕ → Fraction) → ℕ → Fraction
difference x j = x (plus j) -ℚ x (minus j)

-- one of two numbers is 0, so that their difference is no wider than they are
abbrev pub OneIsZero : Fraction → Fraction → Type 0
OneIsZero a b = (a ≡ 0ℚ) ⊎ (b ≡ 0ℚ)
