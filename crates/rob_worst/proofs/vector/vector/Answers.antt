use Rattle.rob_worst.proofs.VectorLemmas.{vector_more}
use Rattle.rob_worst.proofs.vector.vector.Goals as goal

pub loop-number-preserved : goal.loop-number-preserved
loop-number-preserved g c =
    vector_more g.N.Exact.value (g.N.Exact.value c.args.first) c.args.others.now c.loop-number.numbers
    c.push-in-loop-number.new.self c.loop-number.number-index c.number-item.result
    c.loop-number-test.true c.number-item.is c.loop-number.invariant c.in_ok-push-2.ensures.appended
