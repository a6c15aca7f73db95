-- A row that loses an amount in one column: how the cost of a column is put into the objective's row.
use Rattle.std.specs.Prelude.{◌≡◌, ◌≢◌, ◌⊎◌, ℕ, suc, ◌+◌, ◌^◌, ◌<◌, ◌≤◌, ℤ, pos, ◌*ℤ◌, nat_abs, List, length}
use Rattle.rob_linear.specs.Vectors.{Vector}
use Rattle.rob_linear.specs.Multiples.{IsClearedBy}
use Rattle.rob_entries.specs.Updates.{IsWideCleared}
use Rattle.rob_rows.specs.PrimitiveParts.{IsWithin}
use Rattle.rob_table.specs.Lowering.{IsLowered, IsWideLowered}
use Rattle.rob_simplex.specs.Dictionaries.{Table, positions, width_of, columns_of, rows_of, IsAlone, IsFree}
use Rattle.rob_simplex.specs.Pivots.{CanClear}

-- what is subtracted in the objective's row for the cost of a column: that many times the objective's entry
abbrev pub amount_of : Table → ℤ → ℤ
amount_of t factor = factor *ℤ rows_of t (positions t) (suc (t.columns + positions t))

-- a column that isn't basic has the auxiliary one for a way, which isn't either, and is 0 in the objective's row
pub record HasWay (t : Table) (column : ℕ) : Type 0 where
  pub free : IsFree t.columns t.basis column
  pub way : IsFree t.columns t.basis (t.columns + positions t)
  pub other : column ≢ t.columns + positions t
  pub zero : rows_of t (positions t) (t.columns + positions t) ≡ pos 0

-- the objective's row can lose an amount in the column: there is a way, and the row's own entry isn't 0
pub record CanLowerObjective (t : Table) (column : ℕ) : Type 0 where
  pub way : HasWay t column
  pub own : rows_of t (positions t) (suc (t.columns + positions t)) ≢ pos 0

-- so it can in a column that stands open at position i, whose row is alone in it and can clear it again, for a cost of
-- this size
pub record CanLowerAndClear (t : Table) (i column : ℕ) (factor : ℤ) : Type 0 where
  pub clears : CanClear (positions t + 1) t i column
  pub way : HasWay t column
  pub alone : IsAlone t i column
  pub small : (k c : ℕ) → k ≤ positions t → nat_abs (rows_of t k c) ≤ t.limit
  pub low : nat_abs factor < 2 ^ 62

-- a structural column is basic at position i
pub record IsBasicAt (t : Table) (i column : ℕ) : Type 0 where
  pub column_in : column < t.columns
  pub row_in : i < positions t
  pub column_is : columns_of t.basis i ≡ column

-- a cost has one number for each structural column, within the limit
pub record IsCostOf (limit columns : ℕ) (cost : List ℤ) : Type 0 where
  pub size : length cost ≡ columns
  pub within : IsWithin limit cost

-- it was subtracted in a column, and then the row of position i, which stays, has cleared the column in all others
pub record HasCleared (t t' : Table) (i column : ℕ) (factor : ℤ) : Type 0 where
  pub half : Vector
  pub lowered : IsLowered (width_of t) column (amount_of t factor) (rows_of t (positions t)) half
  pub objective : IsClearedBy (width_of t) column half (rows_of t i) (rows_of t' (positions t))
  pub row_stays : (c : ℕ) → c < width_of t → rows_of t' i c ≡ rows_of t i c
  pub others :
      (k : ℕ) → k < positions t → k ≢ i
      → IsClearedBy (width_of t) column (rows_of t k) (rows_of t i) (rows_of t' k)

-- one of the two rows that the objective's would become is wide
abbrev pub HasRefusedCost : ℕ → Table → ℕ → ℕ → ℤ → Type 0
HasRefusedCost limit t i column factor =
    IsWideLowered limit (width_of t) column (amount_of t factor) (rows_of t (positions t))
    ⊎ ((half : Vector) × IsLowered (width_of t) column (amount_of t factor) (rows_of t (positions t)) half
    × IsWideCleared limit (width_of t) column half (rows_of t i))
