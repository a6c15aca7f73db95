use Rattle.std.proofs.Common.{arith}
use Rattle.rob_counterpart.specs.Splitting.{difference}
use Rattle.rob_simplex.specs.Solutions.{point_of}
use Rattle.rob_dualize.proofs.TabulateLemmas.{row_more}
use Rattle.rob_cuts.proofs.reading.plan.Goals as goal

pub loop-j-preserved : goal.loop-j-preserved
loop-j-preserved g c =
    row_more g.N.Exact.value c.loop-j.columns c.push.new.self c.point_difference.result c.loop-j.j
    (difference (point_of c.args.solver.now))
    c.loop-j.invariant c.in_ok-push.ensures.appended c.point_difference.ensures.value

pub point_difference-requires-clause-one : goal.point_difference-requires-clause-one
point_difference-requires-clause-one g c = c.requires.pairs.one c.loop-j.j (omega (arith, c.loop-j-test.true))
