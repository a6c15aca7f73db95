-- Why a program is refused for a row, where its path is followed from the start: so are the set's program, the
-- counterpart, and the masters of the cutting-plane method.
use Rattle.std.specs.Prelude.{◌≡◌, ◌⊎◌, ℕ, ◌<◌, ℤ, nat_abs, List, length}
use Rattle.rob_linear.specs.Vectors.{at}
use Rattle.rob_linear.specs.Systems.{IsPrimitive}
use Rattle.rob_linear.specs.Programs.{Program}
use Rattle.rob_linear.specs.Paths.{Last}
use Rattle.rob_linear.specs.WideRows.{TellsWideRow}
use Rattle.rob_simplex.specs.Dictionaries.{Table, columns_of}
use Rattle.rob_simplex.specs.PathEnds.{AreWeights, EndsWide}
use Rattle.rob_solver.specs.Depths.{deep_limit}

-- the list is the last basis of the program's path, and the row of that position is the first that tells a number there
-- over the limit: of the basic solution or of the direction; or, at the objective's position, the value or a dual value
pub record TellsWideNumber (limit : ℕ) (P : Program) (basis : List ℕ) (p : ℕ) : Type 0 where
  pub dictionary : Table
  pub basis_is : basis ≡ dictionary.basis
  pub ends : EndsWide (Last P) limit P dictionary p

-- the list is the whole last basis of the program's path, which ends in its first phase: no point is feasible, as
-- weights without a common divisor show. One of them is over the limit, and the position is the objective's
pub record TellsWideWeight (limit : ℕ) (P : Program) (basis : List ℕ) (p : ℕ) : Type 0 where
  pub position : p ≡ P.m
  pub whole : length basis ≡ P.m
  pub last : Last P (columns_of basis)
  pub weights : List ℤ
  pub shown : AreWeights P basis weights
  pub primitive : IsPrimitive P.m (at weights)
  pub row : ℕ
  pub inside : row < P.m
  pub wide : limit < nat_abs (at weights row)

-- why a program is refused for the row of that position: an entry of a row of that position, as `HasWideRow` has rows,
-- is over the limit of deep rows, 2^126 - 1, at that basis on the program's path; or the row tells such a number; or
-- such a weight
abbrev pub IsRefusedRow : ℕ → Program → List ℕ → ℕ → Type 0
IsRefusedRow limit P basis p =
    TellsWideRow deep_limit P basis p ⊎ (TellsWideNumber limit P basis p ⊎ TellsWideWeight limit P basis p)

-- the row of that position is wide at the told basis on the program's path, and the program is refused for it
abbrev pub IsRefusedAt : ℕ → Program → List ℕ → ℕ → Type 0
IsRefusedAt limit P basis p = TellsWideRow limit P basis p × IsRefusedRow limit P basis p
