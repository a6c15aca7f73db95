use Rattle.rob_simplex.specs.Solutions.{point_of}
use Rattle.rob_dualize.proofs.TabulateLemmas.{row_more}
use Rattle.rob_dualize.proofs.numbers.point.Goals as goal

pub loop-j-preserved : goal.loop-j-preserved
loop-j-preserved g c =
    row_more g.N.Exact.value c.loop-j.numbers c.push.new.self c.x.result c.loop-j.j (point_of c.args.solver.now)
    c.loop-j.invariant c.in_ok-push.ensures.appended c.x.ensures.value
