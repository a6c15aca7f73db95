-- Rows that are changed in place by another row.
use Rattle.std.specs.Prelude.{◌≡◌, ◌≢◌, ℕ, ◌+◌, ◌-◌, ◌*◌, ◌<◌, ◌≤◌, ℤ, pos, ◌*ℤ◌, ◌<ℤ◌, nat_abs, List, length, slice_index_or, take}
use Rattle.std.specs.Int.RustNames.{unsigned_abs}
use Rattle.rob_algebra.specs.Gcd.{gcd}
use Rattle.rob_linear.specs.Vectors.{Vector, at}
use Rattle.rob_linear.specs.Systems.{IsPrimitive}
use Rattle.rob_linear.specs.Multiples.{IsClearedBy}
use Rattle.rob_rows.specs.PrimitiveParts.{IsWithin, content}

-- the list names the places, below the width, where the row is not 0, from the first on
pub record AreListed (width : ℕ) (row : Vector) (places : List ℕ) : Type 0 where
  pub inside : (j : ℕ) → j < length places → slice_index_or places j 0 < width
  pub rising : (i j : ℕ) → i < j → j < length places → slice_index_or places i 0 < slice_index_or places j 0
  pub all : (k : ℕ) → k < width → row k ≢ pos 0 → (j : ℕ) × (j < length places) × (k ≡ slice_index_or places j 0)

-- the sizes of the two products that make an entry sum to the limit at most
abbrev pub IsNarrowBy : ℕ → ℕ → ℤ → ℤ → Vector → Vector → Type 0
IsNarrowBy limit width p q row other =
    (k : ℕ) → k < width → nat_abs p * nat_abs (row k) + nat_abs q * nat_abs (other k) ≤ limit

-- a row that clears others: its entries, and a number that none of them exceeds in size
pub record Clearing : Type 0 where
  pub entries : List ℤ
  pub bound : ℕ

-- its fields: the entries in lowest terms and within the bound, the list of the places where they are not 0, and room
-- for as many
pub record IsReady (entries : List ℤ) (bound : ℕ) (places : List ℕ) (listed room : ℕ) : Type 0 where
  pub lowest : content entries ≤ 1
  pub within : IsWithin bound entries
  pub places_length : length places ≡ length entries
  pub few : listed ≤ length places
  pub listed_are : AreListed (length entries) (at entries) (take listed places)
  pub room_length : room ≡ length entries

-- the bound holds, and is within the limit
pub record IsBounded (limit : ℕ) (row : List ℤ) (bound : ℕ) : Type 0 where
  pub within : IsWithin bound row
  pub low : bound ≤ limit

-- the last number of each row is its own: `low`, which clears `upper`, has 0 there, and `upper` has not
pub record AreOwn (upper low : Vector) (last : ℕ) : Type 0 where
  pub zero : low last ≡ pos 0
  pub some : upper last ≢ pos 0

-- what the row `low` becomes when `top` clears its entry at the place, in lowest terms, has an entry over the limit
abbrev pub IsWideCleared : ℕ → ℕ → ℕ → Vector → Vector → Type 0
IsWideCleared limit width place low top =
    (new : Vector) × IsClearedBy width place low top new × IsPrimitive width new
    × ((k : ℕ) × (k < width) × (limit < unsigned_abs (new k)))

-- a row is a positive multiple of its part, in so many places
pub record IsMultipleOf (width : ℕ) (row part : Vector) : Type 0 where
  pub times : ℤ
  pub positive : pos 0 <ℤ times
  pub entries : (k : ℕ) → k < width → times *ℤ part k ≡ row k

-- ---- what is asked
-- p times a row less q times the entries of one that clears others can be put in lowest terms: of so many numbers, with
-- marks from `start` on, both rows are within the limit, and the factors within `top` in lowest terms; p is above 0
pub record CanApply (top limit : ℕ) (p q : ℤ) (row entries : List ℤ) (width start marks : ℕ) : Type 0 where
  pub same_width : width ≡ length entries
  pub marks_in : start + width ≤ marks
  pub limit_low : limit ≤ top
  pub positive : pos 0 <ℤ p
  pub factors : (nat_abs p ≤ top) × (nat_abs q ≤ top)
  pub lowest : gcd (nat_abs p) (nat_abs q) ≤ 1
  pub within : IsWithin limit row × IsWithin limit entries
  pub some : (k : ℕ) × (k < width) × (at entries k ≢ pos 0)
  pub own : AreOwn (at row) (at entries) (width - 1)

-- the row `by` can clear a row of so many numbers, with marks from `start` on and entries within the bound, of its
-- entry at the place
pub record CanClearRow (top limit : ℕ) (row : List ℤ) (by : Clearing) (bound place width start marks : ℕ) : Type 0 where
  pub same_width : width ≡ length by.entries
  pub marks_in : start + width ≤ marks
  pub limit_low : limit ≤ top
  pub bounded : IsBounded limit row bound
  pub self_low : by.bound ≤ limit
  pub place_in : place < width
  pub positive : pos 0 <ℤ at by.entries place
  pub own : AreOwn (at row) (at by.entries) (width - 1)

-- the same of the row that begins at `start`, of rows one behind another
pub record CanClearCells (top limit : ℕ) (cells : List ℤ) (by : Clearing) (bound place start : ℕ) : Type 0 where
  pub inside : start + length by.entries ≤ length cells
  pub limit_low : limit ≤ top
  pub within : (k : ℕ) → k < length by.entries → nat_abs (at cells (start + k)) ≤ bound
  pub bound_low : bound ≤ limit
  pub self_low : by.bound ≤ limit
  pub place_in : place < length by.entries
  pub positive : pos 0 <ℤ at by.entries place
  pub own : AreOwn (λ k. at cells (start + k)) (at by.entries) (length by.entries - 1)
