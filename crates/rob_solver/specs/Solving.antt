-- What is known of a program that was solved over narrow rows or over deep ones, or over neither.
use Rattle.std.specs.Prelude.{◌≡◌, ◌⊎◌, ℕ, ◌≤◌, Result, MatchResult, ⊤}
use Rattle.rob_linear.specs.Vectors.{Columns}
use Rattle.rob_linear.specs.Programs.{Program}
use Rattle.rob_linear.specs.Paths.{Last}
use Rattle.rob_linear.specs.WideRows.{HasWideRow}
use Rattle.rob_number.specs.Counts.{raised}
use Rattle.rob_simplex.specs.Dictionaries.{columns_of}
use Rattle.rob_simplex.specs.Endings.{HasSolved, HasAnswered, HasBegun, HasStopped, HasWideWeight}
use Rattle.rob_simplex.specs.Explicit.{StopsFirst}
use Rattle.rob_simplex.specs.PathEnds.{EndsWide}
use Rattle.rob_simplex.specs.Resuming.{CanResume}
use Rattle.rob_simplex.specs.Solvers.{Solver, positions, HasPoint}
use Rattle.rob_simplex.specs.declared.state.Cause.TheVariants.{Turn}
use Rattle.rob_simplex.specs.declared.state.LpStop.{LpStop}
use Rattle.rob_simplex.specs.declared.state.LpStop.TheVariants.{Wide as At}
use Rattle.rob_simplex.specs.declared.state.State.TheVariants.{Stopped as Halted}
use Rattle.rob_solver.specs.Depths.{narrow_limit, deep_limit}
use Rattle.rob_solver.specs.declared.solving.Solved.{Solved as Answer}
use Rattle.rob_solver.specs.declared.solving.Narrow.{Narrow}
use Rattle.rob_solver.specs.declared.solving.Narrow.TheVariants.{Solved, Told, Begun, Anew}
use Rattle.rob_solver.specs.declared.solving.Stopped.{Stopped}
use Rattle.rob_solver.specs.declared.solving.Stopped.TheVariants.{Wide, Memory}

-- the answer is true of the program, and where there is a point another cost can be put on the rows
pub record IsSolved {N : Type 0} (P : Program) (solved : Answer N) : Type 0 where
  pub rows : P.m ≡ positions solved.solver
  pub columns : P.n ≡ solved.solver.columns
  pub answer : HasSolved P solved.kind solved.solver
  pub answered : HasAnswered solved.kind solved.solver
  pub resumable : HasPoint solved.solver → CanResume P solved.solver

-- the solver stands at a basis on the program's path where a row of the told position is wide; want of memory is free
abbrev pub IsStopped : {N : Type 0} → ℕ → Program → Stopped N → Type 0
IsStopped limit P (Wide solver stop) = (P.m ≡ positions solver) × HasStopped limit P stop solver
IsStopped limit P Memory = ⊤

-- at the last basis of the program's path a number is told at that position that is over the limit of what is told: of
-- the point, of the ray, a dual value, the value or a weight
abbrev pub TellsWide : ℕ → Program → LpStop → Solver → Type 0
TellsWide limit P (At i) s = EndsWide (Last P) limit P s.dictionary i ⊎ HasWideWeight limit P s i

-- why: the rows are deep ones, and a row of that position, as `HasWideRow` has rows, has an entry over their limit,
-- 2^126 - 1; or such a number is told there
abbrev pub IsCausedBy : ℕ → Program → LpStop → Solver → Type 0
IsCausedBy limit P (At i) s =
    ((s.limit ≡ deep_limit) × HasWideRow deep_limit P (columns_of s.basis) i) ⊎ TellsWide limit P (At i) s

-- so of a refusal; want of memory is free
abbrev pub IsCausedDeep : {N : Type 0} → ℕ → Program → Stopped N → Type 0
IsCausedDeep limit P (Wide solver stop) = IsCausedBy limit P stop solver
IsCausedDeep limit P Memory = ⊤

-- a turn of the second phase was begun over narrow rows, from a basis on the program's path
pub record IsBegun (P : Program) (s : Solver) : Type 0 where
  pub rows : P.m ≡ positions s
  pub columns : P.n ≡ s.columns
  pub narrow : s.limit ≡ narrow_limit
  pub row : ℕ
  pub turn : s.state ≡ Halted (Turn row)
  pub begun : HasBegun P s

-- the first phase stops over narrow rows
abbrev pub StopsNarrow : Program → Type 0
StopsNarrow P = (basis : Columns) × (i : ℕ) × StopsFirst narrow_limit P basis i

-- what narrow rows come to; deep ones begin anew where the first phase stops
abbrev pub ComesTo : {N : Type 0} → ℕ → Program → Narrow N → Type 0
ComesTo limit P (Solved solved) = IsSolved P solved
ComesTo limit P (Told solver stop) =
    (P.m ≡ positions solver) × HasStopped limit P stop solver × TellsWide limit P stop solver
ComesTo limit P (Begun solver) = IsBegun P solver
ComesTo limit P Anew = StopsNarrow P

-- wide results were raised once where a row is told to be wide, and else stand
abbrev pub CountsStopped : {N : Type 0} → ℕ → ℕ → Stopped N → Type 0
CountsStopped before now (Wide solver stop) = now ≡ raised before
CountsStopped before now Memory = now ≡ before

-- of a ledger's two counts, the operations never fell, and the wide results rose exactly where a row is told to be wide
pub record CountsSolving {S N : Type 0} (ops_of wides_of : S → ℕ) (before now : S)
    (result : Result (Answer N) (Stopped N)) : Type 0 where
  pub ops : ops_of before ≤ ops_of now
  pub wides : MatchResult result (λ _. wides_of now ≡ wides_of before) (CountsStopped (wides_of before) (wides_of now))
