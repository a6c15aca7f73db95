-- How the path of a program ends in a dictionary.
use Rattle.std.specs.Prelude.{◌≡◌, ◌⊎◌, ℕ, ◌<◌, ◌+◌, ℤ, List, Option, Some, None, ⊤}
use Rattle.rob_linear.specs.Vectors.{Columns, at}
use Rattle.rob_linear.specs.Programs.{Program}
use Rattle.rob_linear.specs.Paths.{Reached, Last, LastFrom, EndsInFirstPhase}
use Rattle.rob_linear.specs.WideRows.{HasWideRow, HasWideRowFrom}
use Rattle.rob_simplex.specs.declared.path.Ending.{Ending}
use Rattle.rob_simplex.specs.declared.path.Ending.TheVariants.{Optimal, Infeasible, Unbounded}
use Rattle.rob_simplex.specs.declared.first_phase.FirstEnding.TheVariants as first
use Rattle.rob_simplex.specs.Dictionaries.{Table, columns_of}
use Rattle.rob_simplex.specs.Phases.{StandsFor, InSecond, EndsIn}
use Rattle.rob_simplex.specs.Explicit.{FirstEnds}
use Rattle.rob_simplex.specs.Judging.{Tells, TellsWideFirst}

-- at the last basis of the program, or in the first phase
abbrev pub PathEnds : Program → Ending → Table → Type 0
PathEnds P Optimal t = InSecond P t × EndsIn P None t
PathEnds P (Infeasible row) t = FirstEnds P (first.Infeasible row) t
PathEnds P (Unbounded column) t = InSecond P t × EndsIn P (Some column) t

-- what is told of a point at the end fits
abbrev pub PathTells : ℕ → Ending → Table → Type 0
PathTells limit Optimal t = Tells limit None t
PathTells limit (Infeasible row) t = ⊤
PathTells limit (Unbounded column) t = Tells limit (Some column) t

-- the basis is the last one of a path, of an optimum or of a ray, and the row of position i is the first that tells a
-- number over the limit
pub record EndsWide (IsEnd : Columns → Type 0) (limit : ℕ) (P : Program) (t : Table) (i : ℕ) : Type 0 where
  pub last : IsEnd (columns_of t.basis)
  pub own : StandsFor P t
  pub growing : Option ℕ
  pub ends : EndsIn P growing t
  pub wide : TellsWideFirst limit growing t i

-- why a path isn't followed to an answer: at a basis on it the row of position i has an entry over the limit of the
-- rows themselves; or it ends there, and tells a number over the limit of what is told
abbrev pub PathStops : ℕ → Program → Table → ℕ → Type 0
PathStops limit P t i = HasWideRow t.limit P (columns_of t.basis) i ⊎ EndsWide (Last P) limit P t i

-- the same on the path that goes on from a given basis
abbrev pub PathStopsFrom : ℕ → Program → Columns → Table → ℕ → Type 0
PathStopsFrom limit P start t i =
    HasWideRowFrom t.limit P start (columns_of t.basis) i ⊎ EndsWide (LastFrom P start) limit P t i

-- the weights are the slack entries of the auxiliary objective's row at this basis, the last one of the first phase
pub record AreWeights (P : Program) (basis : List ℕ) (weights : List ℤ) : Type 0 where
  pub reached : Reached P (columns_of basis)
  pub ends : EndsInFirstPhase P (columns_of basis)
  pub entries : (i : ℕ) → i < P.m → ends.0 P.m (P.n + i) ≡ at weights i
