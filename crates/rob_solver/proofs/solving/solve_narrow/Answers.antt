use Rattle.std.proofs.Common.{◌∙◌, ap, sym}
use Rattle.rob_rows.specs.LinearPrograms.{program_of}
use Rattle.rob_simplex.specs.declared.state.State.TheVariants.{Stopped}
use Rattle.rob_solver.proofs.SolvingLemmas.{solution, stops, stops_narrow, tells_wide, begun_nowhere, begun_turn}
use Rattle.rob_solver.proofs.solving.solve_narrow.Goals as goal

pub returns-in-Ok-clause-comes : goal.returns-in-Ok-clause-comes
returns-in-Ok-clause-comes g c =
    let P = program_of (g.R.Rows.lp c.args.source.now) in
    solution g.row.N.Denot P c.in_ok-solver.solver c.solve.new.self c.in-Ok.kind c.in_ok-solver.ensures.made
    c.solve.ensures.sized.columns c.solve.ensures.sized.positions
    (c.in-Ok.ensures.solved P c.in_ok-solver.ensures.made) c.in-Ok.ensures.answered
    (c.in-Ok.ensures.resumable P c.in_ok-solver.ensures.made)

pub cause-requires : goal.cause-requires
cause-requires g c = record {
  stopped =
      let P = program_of (g.R.Rows.lp c.args.source.now) in
      stops g.N.Exact.limit P c.in-Err.stop c.solve.new.self (c.in-Err.ensures.solved P c.in_ok-solver.ensures.made);
}

pub returns-in-Told-clause-comes : goal.returns-in-Told-clause-comes
returns-in-Told-clause-comes g c =
    let P = program_of (g.R.Rows.lp c.args.source.now) in (
      c.in_ok-solver.ensures.made.rows ∙ sym c.solve.ensures.sized.positions,
      c.in-Err.ensures.solved P c.in_ok-solver.ensures.made,
      tells_wide g.N.Exact.limit P c.in-Err.stop c.solve.new.self
          (c.in-Err.ensures.halted P c.in_ok-solver.ensures.made) (c.cause.ensures.cause ∙ ap Stopped c.in-Told.is),
    )

pub returns-in-Turn-clause-comes : goal.returns-in-Turn-clause-comes
returns-in-Turn-clause-comes g c =
    let P = program_of (g.R.Rows.lp c.args.source.now) in
    record {
      rows = c.in_ok-solver.ensures.made.rows ∙ sym c.solve.ensures.sized.positions;
      columns = c.in_ok-solver.ensures.made.columns ∙ sym c.solve.ensures.sized.columns;
      narrow = c.solve.ensures.sized.limit ∙ c.in_ok-solver.ensures.limit;
      row = c.in-Turn.field-0;
      turn = c.cause.ensures.cause ∙ ap Stopped c.in-Turn.is;
      begun =
          begun_turn g.N.Exact.limit P c.in-Err.stop c.solve.new.self c.in-Turn.field-0
          (c.in-Err.ensures.halted P c.in_ok-solver.ensures.made) (c.cause.ensures.cause ∙ ap Stopped c.in-Turn.is);
    }

pub returns-in-First-clause-comes : goal.returns-in-First-clause-comes
returns-in-First-clause-comes g c =
    let P = program_of (g.R.Rows.lp c.args.source.now) in
    stops_narrow g.N.Exact.limit P c.in-Err.stop c.solve.new.self
    (c.in-Err.ensures.halted P c.in_ok-solver.ensures.made) (c.cause.ensures.cause ∙ ap Stopped c.in-First.is)
    (c.solve.ensures.sized.limit ∙ c.in_ok-solver.ensures.limit)

pub unreachable-requires : goal.unreachable-requires
unreachable-requires g c =
    let P = program_of (g.R.Rows.lp c.args.source.now) in
    begun_nowhere g.N.Exact.limit P c.in-Err.stop c.solve.new.self
    (c.in-Err.ensures.halted P c.in_ok-solver.ensures.made) (c.cause.ensures.cause ∙ ap Stopped c.in-Elsewhere.is)
