-- The program of an uncertainty set, solved: a solver that stands at its last basis, which has a scenario; or why there
-- is none.
use Rattle.std.specs.Prelude.{◌≡◌, ℕ, ◌+◌, ◌^◌, ◌<◌, [], length, Result, IfOk, IfErr, ⊤}
use Rattle.rob_algebra.specs.Fraction.{Fraction}
use Rattle.rob_linear.specs.Programs.{Program}
use Rattle.rob_meaning.specs.RobustModel.{RobustModel}
use Rattle.rob_meaning.specs.UncertaintySet.{Admits}
use Rattle.rob_counterpart.specs.Counterpart.{set_program}
use Rattle.rob_counterpart.specs.SetPrograms.{set_of}
use Rattle.rob_model.specs.declared.place.Spot.{Spot}
use Rattle.rob_model.specs.declared.place.Spot.TheVariants as spot
use Rattle.rob_model.specs.declared.place.Program.TheVariants as program
use Rattle.rob_model.specs.declared.plan.Scenario.{Scenario}
use Rattle.rob_model.specs.View.{scenario_of}
use Rattle.rob_sets.specs.SetForm.{IsSetForm, SetFits}
use Rattle.rob_sets.specs.declared.set_form.SetForm.{SetForm}
use Rattle.rob_simplex.specs.Resuming.{CanResume}
use Rattle.rob_simplex.specs.Solvers.{Solver, positions}
use Rattle.rob_cert.specs.declared.ending.Stop.{Stop}
use Rattle.rob_cert.specs.declared.ending.Stop.TheVariants.{EmptySet, Wide, Memory}
use Rattle.rob_dualize.specs.SetProgram.{robust_set}
use Rattle.rob_dualize.specs.Ending.{HasLastPoint}
use Rattle.rob_dualize.specs.Refusals.{IsRefusedAt}
use Rattle.rob_dualize.specs.Solving.{CountsAnswer, IsLastScenario, TellsEmpty}

-- the program of the set
abbrev pub program_of_set : SetForm → Program
program_of_set set = set_of (robust_set set)

-- the set form is that of a model, which is not told, and no number of it is over the limit in size
pub record IsSetOfModel (limit : ℕ) (set : SetForm) : Type 0 where
  pub model : RobustModel
  pub is_set : IsSetForm model set
  pub fits : SetFits limit set

-- the program's rows and columns together are as few as a solver takes
abbrev pub IsFewSet : SetForm → Type 0
IsFewSet set = (set.columns + set.columns) + length set.rows < 2 ^ 31

-- the solver stands at the last basis of a program with the numbers of Q, at a point of it, and can go on with any cost
pub record IsSolved (Q : Program) (s : Solver) : Type 0 where
  pub last : HasLastPoint Q s
  pub stands : CanResume last.program s
  pub rows : last.program.m ≡ positions s
  pub columns : last.program.n ≡ s.columns

-- the row at the spot is wide on the path of the set's program, which is refused for it
abbrev pub IsWideInSet : ℕ → RobustModel → Spot → Type 0
IsWideInSet limit m (spot.Dictionary program.Set basis i) = IsRefusedAt limit (set_program m) basis i
IsWideInSet limit m other = ⊥

-- why the set's program is not solved to a scenario: none is admitted, as the weights show; or it is refused for a wide
-- row
abbrev pub HasSetCause : ℕ → RobustModel → Stop → Type 0
HasSetCause limit m (EmptySet weights) = TellsEmpty limit m weights
HasSetCause limit m (Wide place trace) = IsWideInSet limit m place × (trace.rounds ≡ [])
HasSetCause limit m Memory = ⊤

-- an admitted scenario at the last basis of the set's program, or a stop with its cause; and what was counted
pub record Finds {N : Type 0} (value : N → Fraction) (limit : ℕ) (m : RobustModel) (before now : ℕ)
    (result : Result (Scenario N) Stop) : Type 0 where
  pub found : IfOk result (λ s. Admits m (scenario_of value s) × IsLastScenario m (scenario_of value s))
  pub stopped : IfErr result (HasSetCause limit m)
  pub counted : CountsAnswer before now result
