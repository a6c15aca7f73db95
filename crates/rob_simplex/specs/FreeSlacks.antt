-- The slack columns that are not basic, listed in order, and what a column says of two rows.
use Rattle.std.specs.Prelude.{◌≡◌, ℕ, ◌<◌, ◌≤◌, ◌+◌, ℤ, ◌*ℤ◌, ◌-ℤ◌, List, length, slice_index_or}
use Rattle.rob_simplex.specs.Dictionaries.{Table, positions, columns_of, rows_of}

-- a list, in order, that has each of the first `seen` slack columns that is not basic
pub record AreFree (t : Table) (seen : ℕ) (slacks : List ℕ) : Type 0 where
  pub within : seen ≤ positions t
  pub inside : (j : ℕ) → j < length slacks → slice_index_or slacks j 0 < seen
  pub rising : (i j : ℕ) → i < j → j < length slacks → slice_index_or slacks i 0 < slice_index_or slacks j 0
  pub all :
      (k : ℕ) → k < seen → columns_of t.places (t.columns + k) < t.columns + 3
      → (j : ℕ) × (j < length slacks) × (k ≡ slice_index_or slacks j 0)

-- what row e has over row i in a column, each over its divisor: above 0 where row i is the lesser
abbrev pub lead : Table → ℕ → ℤ → ℕ → ℤ → ℕ → ℤ
lead t i p e q c = (p *ℤ rows_of t e c) -ℤ (q *ℤ rows_of t i c)
