use Rattle.std.proofs.Common.{length, ap, arith}
use Rattle.rob_cuts.proofs.RoundLemmas.{few_rows}
use Rattle.rob_cuts.proofs.round.solve_master.Goals as goal

pub returns-clause-few : goal.returns-clause-few
returns-clause-few g c =
    few_rows g.N.Exact.limit c.args.master.now c.solve.result
    (omega (arith, ap length c.items.ensures.list, ap length c.items-2.ensures.list)) c.solve.ensures.solved
    c.solve.ensures.stopped
