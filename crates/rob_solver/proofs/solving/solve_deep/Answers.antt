use Rattle.std.proofs.Common.{◌∙◌, sym, subst}
use Rattle.rob_rows.specs.LinearPrograms.{program_of}
use Rattle.rob_solver.specs.Solving.{IsStopped, IsCausedDeep}
use Rattle.rob_solver.proofs.SolvingLemmas.{caused_by, counts_refused, solution}
use Rattle.rob_solver.proofs.solving.solve_deep.Goals as goal

pub returns-in-Ok-clause-solved : goal.returns-in-Ok-clause-solved
returns-in-Ok-clause-solved g c =
    let P = program_of (g.R.Rows.lp c.args.source.now) in
    solution g.row.N.Denot P c.in_ok-deep.deep c.solve.new.self c.in-Ok.kind c.in_ok-deep.ensures.made
    c.solve.ensures.sized.columns c.solve.ensures.sized.positions
    (c.in-Ok.ensures.solved P c.in_ok-deep.ensures.made) c.in-Ok.ensures.answered
    (c.in-Ok.ensures.resumable P c.in_ok-deep.ensures.made)

pub returns-in-Err-clause-stopped : goal.returns-in-Err-clause-stopped
returns-in-Err-clause-stopped g c =
    let P = program_of (g.R.Rows.lp c.args.source.now) in
    subst (IsStopped g.N.Exact.limit P) (sym c.refused.ensures.stop) (
      c.in_ok-deep.ensures.made.rows
          ∙ sym c.solve.ensures.sized.positions,
      c.in-Err.ensures.solved P c.in_ok-deep.ensures.made,
    )

pub returns-in-Err-clause-caused : goal.returns-in-Err-clause-caused
returns-in-Err-clause-caused g c =
    let P = program_of (g.R.Rows.lp c.args.source.now) in
    subst (IsCausedDeep g.N.Exact.limit P) (sym c.refused.ensures.stop)
    (caused_by g.N.Exact.limit P c.in-Err.stop c.solve.new.self
    (c.solve.ensures.sized.limit ∙ c.in_ok-deep.ensures.limit)
    (c.in-Err.ensures.caused P c.in_ok-deep.ensures.made))

pub returns-in-Err-clause-counted : goal.returns-in-Err-clause-counted
returns-in-Err-clause-counted g c =
    counts_refused g.L.Ledger.ops g.L.Ledger.wides c.args.ledger.now c.solve.new.ledger c.refused.new.ledger
    c.solve.ensures.counted c.refused.result c.solve.new.self c.in-Err.stop
    c.refused.ensures.stop c.refused.ensures.ops c.refused.ensures.wides
