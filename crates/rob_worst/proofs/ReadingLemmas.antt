-- What the solver tells where a search on a set's program ended: which of its numbers can be asked for.
use Rattle.std.proofs.Common.{◌≡◌, ℕ, ◌+◌, ◌^◌, ◌<◌, ◌≤◌, length, sym, ◌∙◌, arith}
use Rattle.rob_number.specs.declared.lp_kind.LpKind.{LpKind}
use Rattle.rob_number.specs.declared.lp_kind.LpKind.TheVariants as kind
use Rattle.rob_simplex.specs.Solvers.{Solver, positions}
use Rattle.rob_simplex.specs.Solutions.{point_of, ray_of}
use Rattle.rob_counterpart.specs.Splitting.{plus, minus, OneIsZero}
use Rattle.rob_sets.specs.declared.set_form.SetForm.{SetForm}
use Rattle.rob_dualize.specs.SetProgram.{robust_set}
use Rattle.rob_dualize.specs.SetSolving.{program_of_set, IsFewSet}
use Rattle.rob_worst.specs.Finders.{HasSearched}
use Rattle.rob_worst.specs.Tasks.{FitsSet}
use Rattle.rob_worst.specs.declared.task.Task.{Task}
use Rattle.rob_worst.proofs.SearchLemmas.{point_pairs, ray_pairs}
use Rattle.rob_worst.proofs.TaskLemmas.{costs_opposite}

module _ (set : SetForm) (limit : ℕ) (task : Task) (fits : FitsSet limit set.columns task) (s : Solver) where
  pub few_parameters : IsFewSet set → task.params < 2 ^ 31
  few_parameters few = omega (arith, fits.parameters)

  module _ (k : LpKind) (h : HasSearched (program_of_set set) task.cost k s) where
    pub rows_searched : length set.rows ≡ positions s
    rows_searched = sym h.same.height ∙ h.rows

    pub parameters_inside : task.params + task.params ≤ s.columns
    parameters_inside =
        let w : h.program.n ≡ set.columns + set.columns = h.same.width in
        let n : h.program.n ≡ s.columns = h.columns in
        omega (arith, fits.parameters)

  pub scenario_pairs : HasSearched (program_of_set set) task.cost kind.Optimal s → (c : ℕ) → c < task.params
      → OneIsZero (point_of s (plus c)) (point_of s (minus c))
  scenario_pairs h c l = point_pairs (robust_set set) s task.cost (costs_opposite limit set.columns task fits) h c
      (omega (arith, fits.parameters))

  pub direction_pairs : HasSearched (program_of_set set) task.cost kind.Unbounded s → (c : ℕ) → c < task.params
      → OneIsZero (ray_of s (plus c)) (ray_of s (minus c))
  direction_pairs h c l = ray_pairs (robust_set set) s task.cost (costs_opposite limit set.columns task fits) h c
      (omega (arith, fits.parameters))
