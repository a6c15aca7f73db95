-- Rows of which a pivot makes one.
use Rattle.std.specs.Prelude.{◌≡◌, ◌≢◌, ℕ, ◌<◌, ℤ, pos, List, length, slice_index_or}

-- a place where the second row has 0 and the first has not: the column of the first row's own basic variable
pub record IsOwn (own : ℕ) (top low : List ℤ) : Type 0 where
  pub inside : own < length top
  pub nonzero : slice_index_or top own (pos 0) ≢ pos 0
  pub zero : slice_index_or low own (pos 0) ≡ pos 0
