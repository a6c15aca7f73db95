use Rattle.std.proofs.Common.{List, length, refl, subst, sym, ap, ◌∙◌}
use lib.IntN.{ℤ}
use Rattle.rob_linear.specs.Vectors.{at}
use Rattle.rob_linear.specs.Programs.{with_cost}
use Rattle.rob_rows.specs.PrimitiveParts.{IsWithin}
use Rattle.rob_simplex.specs.Dictionaries.{columns_of}
use Rattle.rob_simplex.specs.Resuming.{HasResumed, HasStoppedFrom, IsCausedFrom}
use Rattle.rob_dualize.specs.SetSolving.{program_of_set, IsSolved}
use Rattle.rob_worst.proofs.FinderLemmas.{searched, stopped_search}
use Rattle.rob_worst.proofs.TaskLemmas.{costs_count}
use Rattle.rob_worst.proofs.searching.go_on.Goals as goal

pub resume-requires-clause-cost : goal.resume-requires-clause-cost
resume-requires-clause-cost g c =
    let h : IsSolved (program_of_set c.args.set.now) c.args.solver.now = c.requires.ready.solved in
    record {
      size = ap length c.items.ensures.list ∙ costs_count g.N.Exact.limit c.args.set.now.columns c.args.task.now
          c.requires.ready.task_fits ∙ sym h.last.same.width ∙ h.columns;
      within = subst (IsWithin g.N.Exact.limit) (sym c.items.ensures.list) c.requires.ready.task_fits.within;
    }

pub told-requires-clause-searched : goal.told-requires-clause-searched
told-requires-clause-searched g c =
    let h : IsSolved (program_of_set c.args.set.now) c.args.solver.now = c.requires.ready.solved in
    searched (program_of_set c.args.set.now) c.args.solver.now h c.args.solver.now c.resume.new.self refl
    c.resume.ensures.sized.positions c.resume.ensures.sized.columns c.args.task.now.cost c.in-Ok.kind
    (subst (λ (xs : List ℤ). HasResumed (with_cost h.last.program (at xs)) (columns_of c.args.solver.now.basis)
    c.in-Ok.kind c.resume.new.self) c.items.ensures.list
    (c.in-Ok.ensures.resumed h.last.program h.stands))
    c.in-Ok.ensures.answered

pub returns-in-Err-clause-found : goal.returns-in-Err-clause-found
returns-in-Err-clause-found g c =
    let h : IsSolved (program_of_set c.args.set.now) c.args.solver.now = c.requires.ready.solved in
    stopped_search (program_of_set c.args.set.now) c.args.solver.now h c.args.solver.now c.resume.new.self refl
    c.resume.ensures.sized.positions c.resume.ensures.sized.columns g.N.Exact.limit c.args.task.now.cost c.in-Err.stop
    (subst (λ (xs : List ℤ). HasStoppedFrom g.N.Exact.limit (with_cost h.last.program (at xs))
    (columns_of c.args.solver.now.basis) c.in-Err.stop c.resume.new.self) c.items.ensures.list
    (c.in-Err.ensures.resumed h.last.program h.stands))
    (subst (λ (xs : List ℤ). IsCausedFrom g.N.Exact.limit (with_cost h.last.program (at xs))
    (columns_of c.args.solver.now.basis) c.in-Err.stop c.resume.new.self) c.items.ensures.list
    (c.in-Err.ensures.caused h.last.program h.stands))
