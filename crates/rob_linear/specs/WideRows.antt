-- Rows of a basis on the path with a number over the limit. A position's row is
-- one, so no other rows could have been kept.
use Rattle.std.specs.Prelude.{◌≡◌, ℕ, ◌<◌, ◌≤◌, ◌⊎◌, pos, ◌<ℤ◌, List, length}
use Rattle.std.specs.Int.RustNames.{unsigned_abs}
use Rattle.rob_linear.specs.Vectors.{Columns, Vector, columns_of}
use Rattle.rob_linear.specs.Systems.{System, right, RowOf}
use Rattle.rob_linear.specs.Programs.{Program, system_of, auxiliary_of, kept_of}
use Rattle.rob_linear.specs.Turns.{own_of}
use Rattle.rob_linear.specs.Stages.{IsStage, IsHalfStage}
use Rattle.rob_linear.specs.Paths.{Reached, ReachedFrom}

-- an entry of the row, the right side included, is over the limit in size
abbrev pub HasWideEntry : ℕ → System → Vector → Type 0
HasWideEntry limit S r = (k : ℕ) × (k ≤ right S) × (limit < unsigned_abs (r k))

-- the columns of the list are columns of the system's variables: neither the objective's nor one of another system
abbrev pub IsInside : System → Columns → Type 0
IsInside S basis = (j : ℕ) → j < S.m → basis j < S.columns

-- the row of a position at a basis of the system is wide. A program's own rows have no auxiliary column, so where that
-- is basic they have no wide row
abbrev pub IsWideIn : ℕ → System → Columns → ℕ → Type 0
IsWideIn limit S basis i = (r : Vector) × IsInside S basis × RowOf S (own_of S basis) i r × HasWideEntry limit S r

-- a stage of the objective's row is wide
abbrev pub IsWideStage : ℕ → Program → Columns → Type 0
IsWideStage limit P basis =
    (j : ℕ) × (r : Vector) × (j < P.n)
    × (IsStage P (own_of (system_of P) basis) j r ⊎ IsHalfStage P (own_of (system_of P) basis) j r)
    × HasWideEntry limit (system_of P) r

-- a right side is negative, so the auxiliary column is brought in
abbrev pub NeedsAuxiliary : Program → Type 0
NeedsAuxiliary P = (i : ℕ) × (i < P.m) × (P.b i <ℤ pos 0)

-- a row of position i at the basis is wide: the program's own; of the objective's position a stage;
-- where the auxiliary column was brought in, also those of the auxiliary form and the kept row of the cost
abbrev pub IsWideAt : ℕ → Program → Columns → ℕ → Type 0
IsWideAt limit P basis i =
    IsWideIn limit (system_of P) basis i
    ⊎ (((i ≡ P.m) × IsWideStage limit P basis)
    ⊎ (NeedsAuxiliary P × (IsWideIn limit (auxiliary_of P) basis i ⊎ IsWideIn limit (kept_of P) basis i)))

-- the basis is on the path, and a row of position i there is wide
pub record HasWideRow (limit : ℕ) (P : Program) (basis : Columns) (i : ℕ) : Type 0 where
  pub reached : Reached P basis
  pub wide : IsWideAt limit P basis i

-- the same without the auxiliary form: the program's own row, or of the objective's position a stage
abbrev pub IsOwnWideAt : ℕ → Program → Columns → ℕ → Type 0
IsOwnWideAt limit P basis i = IsWideIn limit (system_of P) basis i ⊎ ((i ≡ P.m) × IsWideStage limit P basis)

-- the same on the path from a given feasible basis, on which no auxiliary column plays a part
pub record HasWideRowFrom (limit : ℕ) (P : Program) (start basis : Columns) (i : ℕ) : Type 0 where
  pub reached : ReachedFrom P start basis
  pub wide : IsOwnWideAt limit P basis i

-- the list is the whole basis, a column for each row of the program; it is on the path, and a row of that position is
-- wide there
pub record TellsWideRow (limit : ℕ) (P : Program) (basis : List ℕ) (i : ℕ) : Type 0 where
  pub whole : length basis ≡ P.m
  pub row : HasWideRow limit P (columns_of basis) i
