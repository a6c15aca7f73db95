-- Which column a row chooses.
use Rattle.std.specs.Prelude.{◌≡◌, ◌⊎◌, ◌<ℤ◌, ◌≤ℤ◌, ℕ, ◌<◌, ◌≤◌, pos, Bool, true, false, List, slice_index_or}
use Rattle.rob_linear.specs.Vectors.{Columns, Vector}

-- the least of the columns near the first `count` places where the row is negative, or `before` where none is less
pub record IsLowest (row : Vector) (near : Columns) (count before result : ℕ) : Type 0 where
  pub low : result ≤ before
  pub found : (result ≡ before) ⊎ ((k : ℕ) × (k < count) × (near k ≡ result) × (row k <ℤ pos 0))
  pub none_lower : (k : ℕ) → k < count → near k < result → pos 0 ≤ℤ row k

-- of the places from `first` on, before `last`, those have their marks off whose column is one from `low` on that comes
-- before the result
abbrev pub IsFloor : List Bool → Columns → ℕ → ℕ → ℕ → ℕ → Type 0
IsFloor marks near first last low result =
    (k : ℕ) → first ≤ k → k < last → low ≤ near k → near k < result → slice_index_or marks k true ≡ false
