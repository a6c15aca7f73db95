use Rattle.std.proofs.Common.{◌∙◌, sym, ap, subst}
use Rattle.rob_simplex.specs.Solvers.{Solver, IsMadeFor}
use Rattle.rob_solver.specs.Depths.{shown}
use Rattle.rob_solver.proofs.solver.Solver.solve.Goals as goal
use Rattle.rob_solver.proofs.solver.Solver.solve.Goals.{in-Narrow, in-Deep}

pub returns-clause-resumable : goal.returns-clause-resumable
returns-clause-resumable g c = λ P made.
    elim c.match-self.branch [
      | in-Narrow w ↦
          rw (w.result-is, w.self-inside-is)
          (w.solve.ensures.resumable P
          (subst (λ (s : Solver). IsMadeFor P s) (sym c.self.view_is ∙ ap shown w.in-Narrow.is) made))
      | in-Deep w ↦
          rw (w.result-is, w.self-inside-is)
          (w.solve-in-Deep.ensures.resumable P
          (subst (λ (s : Solver). IsMadeFor P s) (sym c.self.view_is ∙ ap shown w.in-Deep.is) made))
    ]
