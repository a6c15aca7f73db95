-- When a row can clear a column, when a pivot can be made, and what it comes to.
use Rattle.std.specs.Prelude.{◌≡◌, ◌≢◌, ◌<ℤ◌, ℕ, suc, ◌<◌, ◌≤◌, ◌+◌, pos, nat_abs, set}
use Rattle.rob_linear.specs.Multiples.{IsClearedBy}
use Rattle.rob_entries.specs.Updates.{IsWideCleared}
use Rattle.rob_simplex.specs.Dictionaries.{Table, positions, width_of, spare_column, rows_of, kept_row_of, IsFree, IsOpen, IsClosed, IsPivoted, KeepsOwn}

-- the kept row is 0 in the spare column
abbrev pub KeepsSpare : Table → Type 0
KeepsSpare t = kept_row_of t (spare_column t.columns (positions t)) ≡ pos 0

-- the row, whose position is open, can clear the column in the rows before `count`
pub record CanClear (count : ℕ) (t : Table) (row column : ℕ) : Type 0 where
  pub row_in : row < positions t
  pub free : IsFree t.columns t.basis column
  pub opened : IsOpen t row
  pub below : count ≤ positions t + 2
  pub positive : pos 0 <ℤ rows_of t row column
  pub own : KeepsOwn count t row

-- the column can come in at the position, and be cleared in the rows before `count`, the objective's among them
pub record CanPivot (count : ℕ) (t : Table) (row column : ℕ) : Type 0 where
  pub row_in : row < positions t
  pub free : IsFree t.columns t.basis column
  pub apart : column ≢ spare_column t.columns (positions t)
  pub closed : IsClosed t
  pub all : positions t < count
  pub below : count ≤ positions t + 2
  pub positive : pos 0 <ℤ rows_of t row column
  pub own : KeepsOwn count t row

-- it has come in, and is cleared in the others, in the kept row too where that is among those before `count`
pub record HasPivoted (count : ℕ) (t t' : Table) (row column : ℕ) : Type 0 where
  pub pivoted : IsPivoted t t' row column
  pub closed : IsClosed t'
  pub basis : t'.basis ≡ set t.basis row column
  pub small : (i c : ℕ) → i ≤ positions t' → nat_abs (rows_of t' i c) ≤ t'.limit
  pub kept :
      KeepsSpare t → suc (positions t) < count
      → IsClearedBy (width_of t) column (kept_row_of t) (rows_of t row) (kept_row_of t')

-- row i would be wide
pub record RefusesPivot (limit count : ℕ) (t : Table) (row column i : ℕ) : Type 0 where
  pub inside : i < count
  pub other : i ≢ row
  pub wide : i ≤ positions t → IsWideCleared limit (width_of t) column (rows_of t i) (rows_of t row)
  pub wide_kept :
      KeepsSpare t → i ≡ suc (positions t)
      → IsWideCleared limit (width_of t) column (kept_row_of t) (rows_of t row)
