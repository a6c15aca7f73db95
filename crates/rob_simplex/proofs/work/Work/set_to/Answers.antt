use Rattle.std.proofs.Common.{◌∙◌, sym, subst}
use Rattle.rob_simplex.specs.Solvers.{Solver, IsSound}
use Rattle.rob_simplex.proofs.Rows.CopiedTables.{same_solver}
use Rattle.rob_simplex.proofs.work.Work.set_to.Goals as goal

pub returns : goal.returns
returns g c = record {
  same =
      same_solver c.other.inside.state c.copy_from.new.self c.other.inside.dictionary c.copy_from-2.new.self
      c.other.inside.weights c.copy_from.ensures.same c.copy_from-2.ensures.same ∙ c.other.view_is;
}

pub invariant_of-self : goal.invariant_of-self
invariant_of-self g c =
    subst (λ (s : Solver). IsSound g.E.Entry.top g.N.Exact.limit s)
    (sym (same_solver c.other.inside.state c.copy_from.new.self c.other.inside.dictionary c.copy_from-2.new.self
    c.other.inside.weights c.copy_from.ensures.same c.copy_from-2.ensures.same)) c.other.invariant
