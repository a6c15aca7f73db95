-- What a solver has shown that goes on with another cost from the basis that stands.
-- Dantzig (parametric costs); Chvatal, Linear Programming (1983), chapter 10 (sensitivity of the cost).
use Rattle.std.specs.Prelude.{ℕ}
use Rattle.rob_number.specs.declared.lp_kind.LpKind.{LpKind}
use Rattle.rob_number.specs.declared.lp_kind.LpKind.TheVariants as kind
use Rattle.rob_linear.specs.Vectors.{Columns}
use Rattle.rob_linear.specs.Programs.{Program}
use Rattle.rob_linear.specs.Paths.{LastFrom}
use Rattle.rob_linear.specs.WideRows.{HasWideRowFrom}
use Rattle.rob_simplex.specs.declared.state.LpStop.{LpStop}
use Rattle.rob_simplex.specs.declared.state.LpStop.TheVariants.{Wide}
use Rattle.rob_simplex.specs.Dictionaries.{columns_of}
use Rattle.rob_simplex.specs.PathEnds.{PathStopsFrom}
use Rattle.rob_simplex.specs.Phases.{StandsFor}
use Rattle.rob_simplex.specs.Solvers.{Solver, HasPoint, has_stopped}
use Rattle.rob_simplex.specs.Endings.{IsOptimumAt, IsRayAt}

-- the solver has a point, and its rows are those of the basis in the program: another cost can be put on them
pub record CanResume (P : Program) (s : Solver) : Type 0 where
  pub point : HasPoint s
  pub own : StandsFor P s.dictionary

-- the answer is true at the last basis of the path that goes on from this one
abbrev pub HasResumed : Program → Columns → LpKind → Solver → Type 0
HasResumed P start kind.Optimal s = IsOptimumAt (LastFrom P start) P s
HasResumed P start kind.Infeasible s = ⊥
HasResumed P start kind.Unbounded s = IsRayAt (LastFrom P start) P s

-- the solver stands at a basis on that path, where the row of that position is wide, or, at the objective's position, a
-- stage of putting the cost on it
abbrev pub HasStoppedFrom : ℕ → Program → Columns → LpStop → Solver → Type 0
HasStoppedFrom limit P start (Wide position) s =
    has_stopped s.state × HasWideRowFrom limit P start (columns_of s.basis) position

-- why the solver stopped: that row, or that stage, has an entry over the limit of its own rows; or at the last basis of
-- that path a number is told at that position that is over the limit of what is told
abbrev pub IsCausedFrom : ℕ → Program → Columns → LpStop → Solver → Type 0
IsCausedFrom limit P start (Wide position) s = PathStopsFrom limit P start s.dictionary position
