-- What a solver has shown of its program.
-- Chvatal, Linear Programming (1983), chapters 3, 5 and 9.
use Rattle.std.specs.Prelude.{◌≡◌, ◌⊎◌, ℕ, ◌<◌, ◌≤◌, ◌+◌, nat_abs, Result, IfErr, MatchResult}
use Rattle.rob_number.specs.declared.lp_kind.LpKind.{LpKind}
use Rattle.rob_number.specs.declared.lp_kind.LpKind.TheVariants as kind
use Rattle.rob_linear.specs.Vectors.{Matrix, Columns}
use Rattle.rob_linear.specs.Systems.{IsBasis, IsPrimitive, EndsOptimal, EndsUnbounded}
use Rattle.rob_linear.specs.Programs.{Program, system_of, auxiliary_of, ShowsEmpty, EndsInfeasible}
use Rattle.rob_linear.specs.Turns.{own_of, Enters}
use Rattle.rob_linear.specs.Paths.{Last}
use Rattle.rob_linear.specs.Optimality.{IsFeasible, objective_at, IsOptimal, IsInfeasible, IsUnbounded, IsDualFeasible, dual_objective_at, IsImprovingRay, IsScaled, IsBasicPoint, IsBasicMove}
use Rattle.rob_linear.specs.WideRows.{HasWideRow}
use Rattle.rob_simplex.specs.declared.state.State.{State}
use Rattle.rob_simplex.specs.declared.state.State.TheVariants.{New, Optimal, Infeasible, Unbounded, Stopped}
use Rattle.rob_simplex.specs.declared.state.Cause.{Cause}
use Rattle.rob_simplex.specs.declared.state.Cause.TheVariants.{Told, Turn, First, Elsewhere}
use Rattle.rob_simplex.specs.declared.state.LpStop.{LpStop}
use Rattle.rob_simplex.specs.declared.state.LpStop.TheVariants.{Wide}
use Rattle.rob_simplex.specs.Dictionaries.{columns_of}
use Rattle.rob_simplex.specs.Solvers.{Solver, positions, entries, column_of, HasPoint, HasOptimum, HasRay, HasWeights, IsMadeFor, has_stopped}
use Rattle.rob_simplex.specs.Begun.{HasBegunAt, HasBegunTurn}
use Rattle.rob_simplex.specs.Explicit.{StopsFirst}
use Rattle.rob_simplex.specs.PathEnds.{EndsWide, PathEnds, PathTells, PathStops}
use Rattle.rob_simplex.specs.declared.path.Ending.{Ending}
use Rattle.rob_simplex.specs.declared.state.Halt.{Halt}
use Rattle.rob_simplex.specs.Phases.{InSecond}
use Rattle.rob_simplex.specs.Solutions.{point_of, ray_of, dual_of, value_of, weights_of}

-- the solver was made for a program, and has not solved yet
abbrev pub IsFresh : Solver → Type 0
IsFresh s = (P : Program) × IsMadeFor P s

-- the point is the basic solution of the basis, and this is the last one of a path
pub record IsPointAt (IsEnd : Columns → Type 0) (P : Program) (s : Solver) : Type 0 where
  pub last : IsEnd (columns_of s.basis)
  pub basis : IsBasis (system_of P) (own_of (system_of P) (columns_of s.basis)) (entries s)
  pub basic : IsBasicPoint (system_of P) (own_of (system_of P) (columns_of s.basis)) (entries s) (point_of s)

-- of the program's path
abbrev pub IsLastPoint : Program → Solver → Type 0
IsLastPoint P s = IsPointAt (Last P) P s

-- the slack entries of an infeasible ending of the auxiliary form, at the last basis of the first phase, are the
-- weights
pub record IsFirstPhaseEnd (P : Program) (s : Solver) : Type 0 where
  pub rows : Matrix
  pub basis : IsBasis (auxiliary_of P) (own_of (auxiliary_of P) (columns_of s.basis)) rows
  pub ends : EndsInfeasible P rows
  pub weights_are : (i : ℕ) → i < P.m → rows P.m (P.n + i) ≡ weights_of s i

-- the point is best, and the dual values show it
pub record IsOptimumAt (IsEnd : Columns → Type 0) (P : Program) (s : Solver) : Type 0 where
  pub state : HasOptimum s
  pub point : IsPointAt IsEnd P s
  pub open point use *
  pub ends : EndsOptimal (system_of P) (entries s)
  pub scaled : IsScaled P.m (dual_of s) (entries s P.m (P.n + P.m)) (λ i. entries s P.m (P.n + i))
  pub optimal : IsOptimal P (point_of s)
  pub dual : IsDualFeasible P (dual_of s)
  pub value : objective_at P (point_of s) ≡ value_of s
  pub dual_value : dual_objective_at P (dual_of s) ≡ value_of s

-- at the end of the program's path
abbrev pub IsOptimumOf : Program → Solver → Type 0
IsOptimumOf P s = IsOptimumAt (Last P) P s

-- the point is feasible, and from it the ray leads to values as great as one likes
pub record IsRayAt (IsEnd : Columns → Type 0) (P : Program) (s : Solver) : Type 0 where
  pub state : HasRay s
  pub point : IsPointAt IsEnd P s
  pub open point use *
  pub enters : Enters (system_of P) (entries s) (column_of s.state)
  pub ends : EndsUnbounded (system_of P) (own_of (system_of P) (columns_of s.basis)) (entries s) (column_of s.state)
  pub move : IsBasicMove (system_of P) (own_of (system_of P) (columns_of s.basis)) (entries s) (column_of s.state)
      (ray_of s)
  pub feasible : IsFeasible P (point_of s)
  pub improving : IsImprovingRay P (ray_of s)
  pub unbounded : IsUnbounded P

-- at the end of the program's path
abbrev pub IsRayOf : Program → Solver → Type 0
IsRayOf P s = IsRayAt (Last P) P s

-- no point is feasible, and the weights, which have no common divisor, show it
pub record HasWeightsFor (P : Program) (s : Solver) : Type 0 where
  pub state : HasWeights s
  pub last : Last P (columns_of s.basis)
  pub ending : IsFirstPhaseEnd P s
  pub weights : ShowsEmpty P (weights_of s)
  pub primitive : IsPrimitive P.m (weights_of s)
  pub infeasible : IsInfeasible P

-- which calls tell the answer's numbers
abbrev pub HasAnswered : LpKind → Solver → Type 0
HasAnswered kind.Optimal s = HasOptimum s × HasPoint s
HasAnswered kind.Infeasible s = HasWeights s
HasAnswered kind.Unbounded s = HasRay s × HasPoint s

-- the answer is true
abbrev pub HasSolved : Program → LpKind → Solver → Type 0
HasSolved P kind.Optimal s = IsOptimumOf P s
HasSolved P kind.Infeasible s = HasWeightsFor P s
HasSolved P kind.Unbounded s = IsRayOf P s

-- the solver stands at a basis on the path, where a row of that position is wide
abbrev pub HasStopped : ℕ → Program → LpStop → Solver → Type 0
HasStopped limit P (Wide position) s = has_stopped s.state × HasWideRow limit P (columns_of s.basis) position

-- no point is feasible, as weights without a common divisor show at the end of the path's first phase, and one of them
-- is over the limit
pub record HasWideWeight (limit : ℕ) (P : Program) (s : Solver) (i : ℕ) : Type 0 where
  pub position : i ≡ P.m
  pub last : Last P (columns_of s.basis)
  pub ending : IsFirstPhaseEnd P s
  pub primitive : IsPrimitive P.m (weights_of s)
  pub weight : ℕ
  pub inside : weight < P.m
  pub wide : limit < nat_abs (weights_of s weight)

-- why the solver stopped: a row of that position has an entry over the limit of its own rows; or at the last basis of
-- the path a number is told there that is over the limit of what is told: of an optimum, of a ray, or of weights
abbrev pub IsCaused : ℕ → Program → LpStop → Solver → Type 0
IsCaused limit P (Wide position) s = PathStops limit P s.dictionary position ⊎ HasWideWeight limit P s position

-- what is known of a solver that stopped at position i, by what it stopped at: the last basis tells a number there that
-- is over the limit of what is told; a turn of the second phase was begun, from a basis on the path; or the first phase
-- stops there, as a row of that position has an entry over the limit of the rows
abbrev pub halted_by : ℕ → Program → ℕ → Solver → Cause → Type 0
halted_by limit P i s Told = EndsWide (Last P) limit P s.dictionary i ⊎ HasWideWeight limit P s i
halted_by limit P i s (Turn row) = HasBegunTurn (InSecond P) s.dictionary row
halted_by limit P i s First = StopsFirst s.limit P (columns_of s.basis) i
halted_by limit P i s Elsewhere = ⊥

-- so of the stop that is told
abbrev pub HasHalted : ℕ → Program → LpStop → Solver → Type 0
HasHalted limit P (Wide position) s = (cause : Cause) × (s.state ≡ Stopped cause) × halted_by limit P position s cause

-- in this state: a turn of the second phase was begun, from a basis on the program's path
abbrev pub begun_in : Program → Solver → State → Type 0
begun_in P s (Stopped cause) = HasBegunAt (InSecond P) cause s.dictionary
begun_in P s New = ⊥
begun_in P s Optimal = ⊥
begun_in P s Infeasible = ⊥
begun_in P s (Unbounded column) = ⊥

-- the solver stands where a turn was begun
abbrev pub HasBegun : Program → Solver → Type 0
HasBegun P s = begun_in P s s.state

-- how the path of a program has ended in the solver's dictionary, or why it was not followed to its end
pub record IsTold (limit : ℕ) (P : Program) (ended : Result Ending Halt) (s : Solver) : Type 0 where
  pub rows : P.m ≡ positions s
  pub told :
      MatchResult ended (λ ending. PathEnds P ending s.dictionary × PathTells limit ending s.dictionary)
      (λ halt. HasWideRow limit P (columns_of s.basis) halt.position)
  pub caused : IfErr ended (λ halt. PathStops limit P s.dictionary halt.position)
  pub position : IfErr ended (λ halt. halt.position ≤ positions s)
