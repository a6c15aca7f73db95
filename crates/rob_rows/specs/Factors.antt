-- The factors of a combination.
use Rattle.std.specs.Prelude.{◌≡◌, ℕ, ◌+◌, ◌*◌, ◌^◌, ◌<◌, ℤ, pos, ◌*ℤ◌, nat_abs, List, slice_index_or, length}
use Rattle.rob_rows.specs.declared.factors.Factors.{Factors}

-- p and q are the same positive number times a and b
pub record IsMultiple (p q a b : ℤ) : Type 0 where
  pub times : ℕ
  pub positive : 0 < times
  pub first : p ≡ pos times *ℤ a
  pub second : q ≡ pos times *ℤ b

-- the sizes of the two products that make an entry sum to less than 2^63
abbrev pub IsNarrow : Factors → List ℤ → List ℤ → Type 0
IsNarrow factors top low =
    (k : ℕ) → k < length top → k < length low
    → nat_abs factors.p * nat_abs (slice_index_or top k (pos 0))
    + nat_abs factors.q * nat_abs (slice_index_or low k (pos 0)) < 2 ^ 63
