use Rattle.std.proofs.Common.{arith}
use Rattle.rob_model.proofs.ConditionLemmas.{two_declared}
use Rattle.rob_cells.proofs.SizeLemmas.{adaptive_more}
use Rattle.rob_cells.proofs.size.adaptive_bounds.Goals as goal

pub overflow_add-count : goal.overflow_add-count
overflow_add-count g c =
    omega (
      arith,
      two_declared c.adaptive-item.result.lower c.adaptive-item.result.upper c.declared.ensures.count
          c.declared-in-loop-adaptive.ensures.count,
    )

pub overflow_add-count-in-loop-adaptive : goal.overflow_add-count-in-loop-adaptive
overflow_add-count-in-loop-adaptive g c =
    omega (
      arith,
      two_declared c.adaptive-item.result.lower c.adaptive-item.result.upper c.declared.ensures.count
          c.declared-in-loop-adaptive.ensures.count,
      c.loop-adaptive.invariant.few,
      c.loop-adaptive-test.true,
      c.requires.few,
    )

pub loop-adaptive-preserved : goal.loop-adaptive-preserved
loop-adaptive-preserved g c = record {
  rest = adaptive_more g.N.Exact.value c.args.adaptives.now c.loop-adaptive.adaptive-index c.adaptive-item.result
      c.loop-adaptive.count c.loop-adaptive-test.true c.adaptive-item.is c.declared.ensures.count
      c.declared-in-loop-adaptive.ensures.count c.loop-adaptive.invariant.rest;
  few = omega (
    arith,
    two_declared c.adaptive-item.result.lower c.adaptive-item.result.upper c.declared.ensures.count
        c.declared-in-loop-adaptive.ensures.count,
    c.loop-adaptive.invariant.few,
  );
}
