-- Which numbers may not be 0: a map with a mark for each of them.
use Rattle.std.specs.Prelude.{◌≡◌, ◌⊎◌, ℕ, ◌+◌, ◌<◌, ℤ, pos, Bool, true, false, List, length, slice_index_or}
use Rattle.rob_linear.specs.Vectors.{Vector, at}

-- there is a mark for each number, and where it is off the number is 0
pub record IsMapped (numbers : List ℤ) (marks : List Bool) : Type 0 where
  pub size : length marks ≡ length numbers
  pub zeros : (k : ℕ) → k < length numbers → slice_index_or marks k true ≡ false → at numbers k ≡ pos 0

-- a mark that is off stands in the row from the start on where it is 0; or it was off, and where it stands in the row
-- the other one is 0
abbrev pub AreMarked : ℕ → ℕ → Vector → Vector → List Bool → List Bool → Type 0
AreMarked start width row other before after =
    (j : ℕ) → slice_index_or after j true ≡ false
    → ((k : ℕ) × (k < width) × (j ≡ start + k) × (row k ≡ pos 0))
    ⊎ ((slice_index_or before j true ≡ false) × ((k : ℕ) → k < width → j ≡ start + k → other k ≡ pos 0))
