use Rattle.rob_simplex.specs.Solutions.{ray_of}
use Rattle.rob_dualize.proofs.TabulateLemmas.{row_more}
use Rattle.rob_dualize.proofs.numbers.ray.Goals as goal

pub loop-j-preserved : goal.loop-j-preserved
loop-j-preserved g c =
    row_more g.N.Exact.value c.loop-j.numbers c.push.new.self c.ray.result c.loop-j.j (ray_of c.args.solver.now)
    c.loop-j.invariant c.in_ok-push.ensures.appended c.ray.ensures.value
