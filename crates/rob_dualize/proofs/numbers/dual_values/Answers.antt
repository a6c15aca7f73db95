use Rattle.rob_simplex.specs.Solutions.{dual_of}
use Rattle.rob_dualize.proofs.TabulateLemmas.{row_more}
use Rattle.rob_dualize.proofs.numbers.dual_values.Goals as goal

pub loop-i-preserved : goal.loop-i-preserved
loop-i-preserved g c =
    row_more g.N.Exact.value c.loop-i.numbers c.push.new.self c.y.result c.loop-i.i (dual_of c.args.solver.now)
    c.loop-i.invariant c.in_ok-push.ensures.appended c.y.ensures.value
