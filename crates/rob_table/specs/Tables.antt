-- Rows that stand one after another in one list, each with a number that bounds its entries, and what a pivot makes of
-- them.
use Rattle.std.specs.Prelude.{◌≡◌, ◌≢◌, ◌<ℤ◌, ℕ, ◌<◌, ◌≤◌, ◌+◌, ◌*◌, ℤ, pos, List, length, nat_abs, slice_index_or}
use Rattle.rob_linear.specs.Vectors.{Matrix, Vector, at}
use Rattle.rob_linear.specs.Multiples.{IsClearedBy}
use Rattle.rob_entries.specs.Updates.{Clearing, IsWideCleared}
use Rattle.rob_table.specs.declared.table.Pivot.{Pivot}

-- entry k of row i of a table with rows of this width
abbrev pub row_at : List ℤ → ℕ → Matrix
row_at table width i k = at table (i * width + k)

-- the bound of row i
abbrev pub bound_at : List ℕ → ℕ → ℕ
bound_at bounds i = slice_index_or bounds i 0

-- the entries of each row are within its bound, and this within the limit
pub record HasBounds (limit width : ℕ) (table : List ℤ) (bounds : List ℕ) : Type 0 where
  pub size : length table ≡ length bounds * width
  pub within : (i k : ℕ) → i < length bounds → k < width → nat_abs (row_at table width i k) ≤ bound_at bounds i
  pub low : (i : ℕ) → i < length bounds → bound_at bounds i ≤ limit

-- all rows but row i are the same
abbrev pub IsUnchangedBut : ℕ → ℕ → Matrix → Matrix → Type 0
IsUnchangedBut i width rows rows' = (j k : ℕ) → j ≢ i → k < width → rows' j k ≡ rows j k

-- the row `by` can clear its entry in the rows before `count`: it is as wide as these, within the limit, and positive
-- there
pub record CanClearRows (limit : ℕ) (pivot : Pivot) (rows : List ℤ) (bounds : List ℕ) (by : Clearing)
    (count : ℕ) : Type 0 where
  pub bounded : HasBounds limit pivot.width rows bounds
  pub inside : count ≤ length bounds
  pub width : length by.entries ≡ pivot.width
  pub place_in : pivot.place < pivot.width
  pub low : by.bound ≤ limit
  pub positive : pos 0 <ℤ at by.entries pivot.place

-- of the rows before `count` but row e, each is cleared of its entry at the place by the row `by`; all others stay
pub record AreCleared (count width e place : ℕ) (by : Vector) (rows rows' : Matrix) : Type 0 where
  pub cleared : (i : ℕ) → i < count → i ≢ e → IsClearedBy width place (rows i) by (rows' i)
  pub row_stays : (k : ℕ) → k < width → rows' e k ≡ rows e k
  pub others : (i k : ℕ) → count ≤ i → k < width → rows' i k ≡ rows i k

-- the rows before row i are cleared, and row i would be wide
pub record IsStopped (limit count width e place : ℕ) (by : Vector) (rows rows' : Matrix) (i : ℕ) : Type 0 where
  pub inside : i < count
  pub other : i ≢ e
  pub before : AreCleared i width e place by rows rows'
  pub wide : IsWideCleared limit width place (rows i) by
