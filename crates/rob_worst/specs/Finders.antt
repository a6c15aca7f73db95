-- What a search asks of a model, what a finder holds, and how a search on it ends.
use Rattle.std.specs.Prelude.{◌≡◌, ◌<◌, ℕ, ℤ, Bool, List, length}
use Rattle.rob_algebra.specs.Fraction.{Fraction}
use Rattle.rob_linear.specs.Vectors.{Columns, at}
use Rattle.rob_linear.specs.Programs.{Program, with_cost}
use Rattle.rob_linear.specs.Paths.{Last, HasAuxiliary}
use Rattle.rob_meaning.specs.Forms.{matrices, form_columns}
use Rattle.rob_meaning.specs.RobustModel.{RobustModel}
use Rattle.rob_counterpart.specs.SamePrograms.{AreSame}
use Rattle.rob_number.specs.declared.lp_kind.LpKind.{LpKind}
use Rattle.rob_cert.specs.declared.ending.Worst.{Worst}
use Rattle.rob_sets.specs.SetForm.{IsSetForm}
use Rattle.rob_sets.specs.declared.set_form.SetForm.{SetForm}
use Rattle.rob_simplex.specs.Endings.{HasAnswered}
use Rattle.rob_simplex.specs.Resuming.{HasResumed, HasStoppedFrom, IsCausedFrom}
use Rattle.rob_simplex.specs.Solvers.{Solver, positions}
use Rattle.rob_simplex.specs.declared.state.LpStop.{LpStop}
use Rattle.rob_elab.specs.Elaborated.{AreElaborated}
use Rattle.rob_elab.specs.declared.forms.Forms.{Forms}
use Rattle.rob_dualize.specs.SetSolving.{program_of_set, IsFewSet, IsSolved}
use Rattle.rob_worst.specs.Finding.{Tells}
use Rattle.rob_worst.specs.Tasks.{FitsSet, IsTaskOf}
use Rattle.rob_worst.specs.declared.finder.Finder.{Finder}
use Rattle.rob_worst.specs.declared.task.Task.{Task}

-- the finder's first solver stands at the last basis of a program with the numbers of Q; the second one has its size
-- and rows of its depth
pub record IsFinderFor {N : Type 0} (Q : Program) (f : Finder N) : Type 0 where
  pub solved : IsSolved Q f.solved
  pub search_rows : positions f.search ≡ positions f.solved
  pub search_columns : f.search.columns ≡ f.solved.columns
  pub search_limit : f.search.limit ≡ f.solved.limit

-- it is a finder for this set
abbrev pub IsFinder : {N : Type 0} → SetForm → Finder N → Type 0
IsFinder set f = IsFinderFor (program_of_set set) f

-- the forms and the set rows are those of one model, no number of theirs is over the limit, and the set's program has
-- as few rows and columns together as a solver takes
pub record FitsSearch (limit : ℕ) (forms : Forms) (set : SetForm) : Type 0 where
  pub elaborated : AreElaborated limit forms set
  pub few : IsFewSet set

-- the solver can go on with the task's cost: it stands at the last basis of the set's program, whose rows and
-- columns together are as few as a solver takes, and the task fits its columns
pub record CanGoOn (limit : ℕ) (set : SetForm) (task : Task) (s : Solver) : Type 0 where
  pub few : IsFewSet set
  pub task_fits : FitsSet limit set.columns task
  pub solved : IsSolved (program_of_set set) s

-- the solver went on from the last basis of a program with the numbers of Q, with this cost, and its answer is true
pub record HasSearched (Q : Program) (cost : List ℤ) (kind : LpKind) (s : Solver) : Type 0 where
  pub program : Program
  pub same : AreSame program Q
  pub start : Columns
  pub last : Last program start
  pub without : ¬ (HasAuxiliary program start)
  pub rows : program.m ≡ positions s
  pub columns : program.n ≡ s.columns
  pub resumed : HasResumed (with_cost program (at cost)) start kind s
  pub answered : HasAnswered kind s

-- the solver went on so, and stands where a row is wide, or a stage of the objective's; and why
pub record HasStoppedSearch (limit : ℕ) (Q : Program) (cost : List ℤ) (stop : LpStop) (s : Solver) : Type 0 where
  pub program : Program
  pub same : AreSame program Q
  pub start : Columns
  pub last : Last program start
  pub without : ¬ (HasAuxiliary program start)
  pub rows : program.m ≡ positions s
  pub stopped : HasStoppedFrom limit (with_cost program (at cost)) start stop s
  pub caused : IsCausedFrom limit (with_cost program (at cost)) start stop s

-- what is told is what the task asks for, of each model with this set
abbrev pub TellsTask : {N : Type 0} → (N → Fraction) → SetForm → Task → Worst N → Type 0
TellsTask value set task worst =
    (m : RobustModel) → IsSetForm m set → (step : Bool) (i : ℕ) → i < length (matrices m) → (z : List Fraction)
    → length z ≡ form_columns m → IsTaskOf m step i z task → Tells value m i z worst
