use Rattle.std.proofs.Common.{length, ap, subst}
use Rattle.rob_number.specs.declared.lp_kind.LpKind.{LpKind}
use Rattle.rob_number.specs.declared.lp_kind.LpKind.TheVariants as kind
use Rattle.rob_dualize.specs.Ending.{IsSolvedAs, IsStoppedAs}
use Rattle.rob_dualize.specs.SetSolving.{program_of_set}
use Rattle.rob_dualize.proofs.MakingLemmas.{has_ended}
use Rattle.rob_dualize.proofs.SetLemmas.{solved_at_optimum, solved_at_ray, empty_cause, stopped_cause}
use Rattle.rob_dualize.proofs.set_program.solved_set.Goals as goal

pub returns-in-Infeasible-clause-stopped : goal.returns-in-Infeasible-clause-stopped
returns-in-Infeasible-clause-stopped g c = λ m model is.
    let Q = program_of_set c.args.set.now in
    empty_cause m c.args.set.now is g.N.Exact.limit model c.in-Ok.field-0.solver
    (has_ended g.row.N.Denot Q c.in-Ok.field-0.solver kind.Infeasible
    (subst (λ (k : LpKind). IsSolvedAs {N = g.row.N.Denot} Q (record { solver = c.in-Ok.field-0.solver; kind = k }))
    c.in-Infeasible.is c.in-Ok.ensures.solved))
    (length c.items.result.now) c.empty_set.result (ap length c.items.ensures.list) c.empty_set.ensures.stop

pub returns-in-Optimal-clause-solved : goal.returns-in-Optimal-clause-solved
returns-in-Optimal-clause-solved g c =
    solved_at_optimum g.row.N.Denot (program_of_set c.args.set.now) c.in-Ok.field-0.solver c.in-Ok.field-0.kind
    c.in-Optimal.is c.in-Ok.ensures.solved

pub returns-in-Unbounded-clause-solved : goal.returns-in-Unbounded-clause-solved
returns-in-Unbounded-clause-solved g c =
    solved_at_ray g.row.N.Denot (program_of_set c.args.set.now) c.in-Ok.field-0.solver c.in-Ok.field-0.kind
    c.in-Unbounded.is c.in-Ok.ensures.solved

pub returns-in-Err-Wide-clause-stopped : goal.returns-in-Err-Wide-clause-stopped
returns-in-Err-Wide-clause-stopped g c = λ m model is.
    stopped_cause m c.args.set.now is g.N.Exact.limit c.in-Err-Wide.solver c.in-Err-Wide.stop
    (subst (IsStoppedAs g.N.Exact.limit (program_of_set c.args.set.now)) c.in-Err-Wide.field-0-is
    c.in-Err-Wide.ensures.stopped)
    c.position.result c.position.ensures.position c.wide.result c.wide.ensures.stop
