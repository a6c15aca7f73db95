use Rattle.rob_dualize.proofs.SolvingLemmas.{stops_at}
use Rattle.rob_dualize.proofs.stop.wide.Goals as goal

pub returns-in-Ok : goal.returns-in-Ok
returns-in-Ok g c = record {
  stop = stops_at c.args.solver.now.basis c.in-Ok.columns c.args.program c.args.i c.wide_at.result
      c.in-Ok.ensures.basis c.wide_at.ensures.stop;
}
