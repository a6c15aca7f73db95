use Rattle.rob_sets.proofs.WholeRows.ClearingSteps.{whole_wide}
use Rattle.rob_worst.proofs.vector.cleared.Goals as goal

pub returns-in-None-clause-wide : goal.returns-in-None-clause-wide
returns-in-None-clause-wide g c =
    whole_wide g.N.Exact.value c.args.numbers.now c.loop-q.q-index c.q-item.result g.N.Exact.limit c.args.common
    c.loop-q-test.true c.q-item.is c.in-None.ensures.whole
