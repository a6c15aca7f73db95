-- How a solver ends on the counterpart, and what is read there.
use Rattle.std.specs.Prelude.{◌≡◌, ◌≤◌, ℕ, nat_abs, List, [], ⊤}
use Rattle.rob_algebra.specs.Fraction.{Fraction, of_int}
use Rattle.rob_linear.specs.Vectors.{Vector}
use Rattle.rob_linear.specs.Systems.{Feasible}
use Rattle.rob_linear.specs.Programs.{Program, system_of}
use Rattle.rob_meaning.specs.Certificates.{Certificate}
use Rattle.rob_meaning.specs.Places.{Each, tabulate}
use Rattle.rob_number.specs.declared.lp_kind.LpKind.{LpKind}
use Rattle.rob_number.specs.declared.lp_kind.LpKind.TheVariants as kind
use Rattle.rob_model.specs.declared.place.Spot.{Spot}
use Rattle.rob_model.specs.declared.place.Spot.TheVariants.{Dictionary}
use Rattle.rob_model.specs.declared.place.Program.{Program as Named}
use Rattle.rob_simplex.specs.Solvers.{Solver, positions, entries, IsMadeFor}
use Rattle.rob_simplex.specs.Solutions.{point_of, dual_of, ray_of, weights_of}
use Rattle.rob_simplex.specs.declared.state.LpStop.{LpStop}
use Rattle.rob_simplex.specs.declared.state.LpStop.TheVariants.{Wide as At}
use Rattle.rob_simplex.specs.Endings.{IsLastPoint, HasSolved, HasAnswered, HasStopped}
use Rattle.rob_solver.specs.Solving.{IsSolved, IsCausedBy}
use Rattle.rob_solver.specs.declared.solving.Solved.{Solved}
use Rattle.rob_solver.specs.declared.solving.Stopped.{Stopped}
use Rattle.rob_solver.specs.declared.solving.Stopped.TheVariants as unsolved
use Rattle.rob_cert.specs.declared.ending.Stop.{Stop}
use Rattle.rob_cert.specs.declared.ending.Stop.TheVariants.{EmptySet, Wide, Memory}
use Rattle.rob_counterpart.specs.RobustProgram.{RobustProgram}
use Rattle.rob_counterpart.specs.SamePrograms.{AreSame}
use Rattle.rob_counterpart.specs.ReadNumbers.{optimal_from, infeasible_from, unbounded_from}
pub use Rattle.rob_counterpart.specs.ReadNumbers.{infeasible_with}

-- the solver was made for a program with the numbers of Q
pub record IsMadeAs (Q : Program) (s : Solver) : Type 0 where
  pub program : Program
  pub same : AreSame program Q
  pub made : IsMadeFor program s

-- the solver stands at the last basis of a program with the numbers of Q, which is feasible, with its point
pub record HasLastPoint (Q : Program) (s : Solver) : Type 0 where
  pub program : Program
  pub same : AreSame program Q
  pub point : IsLastPoint program s
  pub feasible : Feasible (system_of program) (entries s)

-- the solver's answer is true of a program with the numbers of Q
pub record HasEnded (Q : Program) (kind : LpKind) (s : Solver) : Type 0 where
  pub program : Program
  pub same : AreSame program Q
  pub rows : program.m ≡ positions s
  pub columns : program.n ≡ s.columns
  pub solved : HasSolved program kind s
  pub answered : HasAnswered kind s

-- the answer is true of a program with the numbers of Q, and where there is a point another cost can be put on the rows
pub record IsSolvedAs {N : Type 0} (Q : Program) (solved : Solved N) : Type 0 where
  pub program : Program
  pub same : AreSame program Q
  pub answer : IsSolved program solved

-- the row of the position that the stop names is wide at the basis where the solver stands, of a program with the
-- numbers of Q; and why: its rows are deep and that one has an entry over their limit, or a number is told there that
-- is over the limit
pub record IsStoppedAt (limit : ℕ) (Q : Program) (s : Solver) (stop : LpStop) : Type 0 where
  pub program : Program
  pub same : AreSame program Q
  pub rows : program.m ≡ positions s
  pub wide : HasStopped limit program stop s
  pub caused : IsCausedBy limit program stop s

-- why a program with the numbers of Q has no answer: such a row; want of memory is free
abbrev pub IsStoppedAs : {N : Type 0} → ℕ → Program → Stopped N → Type 0
IsStoppedAs limit Q (unsolved.Wide s stop) = IsStoppedAt limit Q s stop
IsStoppedAs limit Q unsolved.Memory = ⊤

-- the certificate of an ending, from the numbers that the solver tells
abbrev pub read_from : RobustProgram → List Fraction → LpKind → Solver → Certificate
read_from d inside kind.Optimal s = optimal_from d inside (point_of s) (dual_of s)
read_from d inside kind.Infeasible s = infeasible_from d inside (λ i. of_int (weights_of s i))
read_from d inside kind.Unbounded s = unbounded_from d inside (point_of s) (ray_of s)

-- the position that a solver's stop names
abbrev pub position_of : LpStop → ℕ
position_of (At i) = i

-- the stop names the spot, and no rounds
abbrev pub IsWideStop : Spot → Stop → Type 0
IsWideStop spot stop = stop ≡ Wide spot (record { rounds = [] })

-- the stop names that program, that basis and that position, and no rounds; or memory was refused
abbrev pub StopsAt : List ℕ → Named → ℕ → Stop → Type 0
StopsAt basis program i (EmptySet weights) = ⊥
StopsAt basis program i (Wide place trace) = (place ≡ Dictionary program basis i) × (trace.rounds ≡ [])
StopsAt basis program i Memory = ⊤

-- the stop tells the first n weights, none of them over the limit in size; or memory was refused
abbrev pub TellsWeights : ℕ → ℕ → Vector → Stop → Type 0
TellsWeights limit n w (EmptySet weights) =
    (weights ≡ tabulate n w) × Each (λ weight. nat_abs weight ≤ limit) weights
TellsWeights limit n w (Wide place trace) = ⊥
TellsWeights limit n w Memory = ⊤
