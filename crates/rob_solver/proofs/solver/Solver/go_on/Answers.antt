use Rattle.std.proofs.Common.{◌∙◌, sym, ap, subst}
use Rattle.rob_simplex.specs.Endings.{HasBegun}
use Rattle.rob_simplex.specs.Solvers.{Solver}
use Rattle.rob_solver.specs.Depths.{shown}
use Rattle.rob_solver.proofs.solver.Solver.go_on.Goals as goal
use Rattle.rob_solver.proofs.solver.Solver.go_on.Goals.{in-Narrow, in-Deep}

pub returns-clause-resumable : goal.returns-clause-resumable
returns-clause-resumable g c = λ P made.
    elim c.match-self.branch [
      | in-Narrow w ↦
          rw (w.result-is, w.self-inside-is)
          (w.go_on.ensures.resumable P
          (subst (λ (s : Solver). HasBegun P s) (sym c.self.view_is ∙ ap shown w.in-Narrow.is) made))
      | in-Deep w ↦
          rw (w.result-is, w.self-inside-is)
          (w.go_on-in-Deep.ensures.resumable P
          (subst (λ (s : Solver). HasBegun P s) (sym c.self.view_is ∙ ap shown w.in-Deep.is) made))
    ]

pub returns-clause-solved : goal.returns-clause-solved
returns-clause-solved g c = λ P made.
    elim c.match-self.branch [
      | in-Narrow w ↦
          rw (w.result-is, w.self-inside-is)
          (w.go_on.ensures.solved P
          (subst (λ (s : Solver). HasBegun P s) (sym c.self.view_is ∙ ap shown w.in-Narrow.is) made))
      | in-Deep w ↦
          rw (w.result-is, w.self-inside-is)
          (w.go_on-in-Deep.ensures.solved P
          (subst (λ (s : Solver). HasBegun P s) (sym c.self.view_is ∙ ap shown w.in-Deep.is) made))
    ]

pub returns-clause-caused : goal.returns-clause-caused
returns-clause-caused g c = λ P made.
    elim c.match-self.branch [
      | in-Narrow w ↦
          rw (w.result-is, w.self-inside-is)
          (w.go_on.ensures.caused P
          (subst (λ (s : Solver). HasBegun P s) (sym c.self.view_is ∙ ap shown w.in-Narrow.is) made))
      | in-Deep w ↦
          rw (w.result-is, w.self-inside-is)
          (w.go_on-in-Deep.ensures.caused P
          (subst (λ (s : Solver). HasBegun P s) (sym c.self.view_is ∙ ap shown w.in-Deep.is) made))
    ]
