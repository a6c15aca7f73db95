use Rattle.std.proofs.Common.{arith}
use Rattle.rob_model.proofs.ConditionLemmas.{count_more, few_declared}
use Rattle.rob_model.proofs.bounds.bound_count.Goals as goal

pub loop-param-preserved : goal.loop-param-preserved
loop-param-preserved g c =
    let d = c.param-item.result in
    let more = count_more g.N.Exact.value c.args.params.now c.loop-param.param-index c.loop-param.count d
    c.loop-param-test.true c.param-item.is c.loop-param.invariant.rest in
    record {
      rest = omega arith;
      small = omega (arith, few_declared d.lower, few_declared d.upper);
    }
