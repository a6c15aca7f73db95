use Rattle.rob_cert.specs.View.{certificate_of}
use Rattle.rob_model.specs.View.{robust}
use Rattle.rob_top.proofs.Meaning.SolvingLemmas.{solution_fits}
use Rattle.rob_top.proofs.Meaning.SplittingLemmas.{model_stop_of, plan_replies, stop_replies}
use Rattle.rob_top.proofs.splitting.solved.Goals as goal

pub with_cells-requires-clause-shape : goal.with_cells-requires-clause-shape
with_cells-requires-clause-shape g c = c.in-Ok.ensures.solved.shape

pub stopped-requires-clause-named : goal.stopped-requires-clause-named
stopped-requires-clause-named g c =
    model_stop_of g.N.Exact.limit (robust g.N.Exact.value c.args.model.now) c.in-Err.stop c.in-Err.ensures.cause

pub returns-in-Ok-clause-pieces : goal.returns-in-Ok-clause-pieces
returns-in-Ok-clause-pieces g c =
    plan_replies g.N.Exact.limit (robust g.N.Exact.value c.args.model.now) _ c.args.cells
    (certificate_of g.N.Exact.value c.in-Ok.cert)
    c.with_cells.result c.in-Ok.ensures.written c.in-Ok.ensures.solved
    (solution_fits g.N.Exact.value g.N.Exact.limit g.met.N.Exact.fits
    (robust g.N.Exact.value c.args.model.now) c.in-Ok.cert)
    c.with_cells.ensures.report

pub returns-in-Err-clause-pieces : goal.returns-in-Err-clause-pieces
returns-in-Err-clause-pieces g c =
    stop_replies g.N.Exact.limit (robust g.N.Exact.value c.args.model.now) (g.L.Ledger.wides c.args.ledger.now)
    (g.L.Ledger.wides c.solve_model.new.ledger) c.args.cells c.in-Err.stop c.stopped.result c.in-Err.ensures.cause
    c.in-Err.ensures.counted.refused c.stopped.ensures.stop
