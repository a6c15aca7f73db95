use Rattle.std.proofs.Common.{sym, subst}
use Rattle.rob_rows.specs.LinearPrograms.{program_of}
use Rattle.rob_solver.specs.Solving.{ComesTo, IsStopped, IsCausedDeep}
use Rattle.rob_solver.proofs.SolvingLemmas.{caused_told, counts_refused}
use Rattle.rob_solver.proofs.solving.solve.Goals as goal

pub returns-in-Ok-Told-clause-stopped : goal.returns-in-Ok-Told-clause-stopped
returns-in-Ok-Told-clause-stopped g c =
    let P = program_of (g.R.Rows.lp c.args.source.now) in
    let h = subst (ComesTo g.N.Exact.limit P) c.in-Ok-Told.field-0-is c.in-Ok-Told.ensures.comes in
    subst (IsStopped g.N.Exact.limit P) (sym c.refused.ensures.stop) (h.0, h.1)

pub returns-in-Ok-Told-clause-caused : goal.returns-in-Ok-Told-clause-caused
returns-in-Ok-Told-clause-caused g c =
    let P = program_of (g.R.Rows.lp c.args.source.now) in
    let h = subst (ComesTo g.N.Exact.limit P) c.in-Ok-Told.field-0-is c.in-Ok-Told.ensures.comes in
    subst (IsCausedDeep g.N.Exact.limit P) (sym c.refused.ensures.stop)
    (caused_told g.N.Exact.limit P c.in-Ok-Told.stop c.in-Ok-Told.solver h.2)

pub returns-in-Ok-Told-clause-counted : goal.returns-in-Ok-Told-clause-counted
returns-in-Ok-Told-clause-counted g c =
    counts_refused g.L.Ledger.ops g.L.Ledger.wides c.args.ledger.now c.solve_narrow.new.ledger c.refused.new.ledger
    c.solve_narrow.ensures.counted c.refused.result c.in-Ok-Told.solver c.in-Ok-Told.stop
    c.refused.ensures.stop c.refused.ensures.ops c.refused.ensures.wides

pub returns-in-Ok-Solved-clause-solved : goal.returns-in-Ok-Solved-clause-solved
returns-in-Ok-Solved-clause-solved g c =
    subst (ComesTo g.N.Exact.limit (program_of (g.R.Rows.lp c.args.source.now))) c.in-Ok-Solved.field-0-is
    c.in-Ok-Solved.ensures.comes

pub go_on-requires : goal.go_on-requires
go_on-requires g c =
    let P = program_of (g.R.Rows.lp c.args.source.now) in
    record { begun = (P, subst (ComesTo g.N.Exact.limit P) c.in-Ok-Begun.field-0-is c.in-Ok-Begun.ensures.comes) }

pub returns-in-Ok-Begun-clause-solved : goal.returns-in-Ok-Begun-clause-solved
returns-in-Ok-Begun-clause-solved g c =
    let P = program_of (g.R.Rows.lp c.args.source.now) in
    c.go_on.ensures.solved P (subst (ComesTo g.N.Exact.limit P) c.in-Ok-Begun.field-0-is c.in-Ok-Begun.ensures.comes)

pub returns-in-Ok-Begun-clause-stopped : goal.returns-in-Ok-Begun-clause-stopped
returns-in-Ok-Begun-clause-stopped g c =
    let P = program_of (g.R.Rows.lp c.args.source.now) in
    c.go_on.ensures.stopped P (subst (ComesTo g.N.Exact.limit P) c.in-Ok-Begun.field-0-is c.in-Ok-Begun.ensures.comes)

pub returns-in-Ok-Begun-clause-caused : goal.returns-in-Ok-Begun-clause-caused
returns-in-Ok-Begun-clause-caused g c =
    let P = program_of (g.R.Rows.lp c.args.source.now) in
    c.go_on.ensures.caused P (subst (ComesTo g.N.Exact.limit P) c.in-Ok-Begun.field-0-is c.in-Ok-Begun.ensures.comes)
