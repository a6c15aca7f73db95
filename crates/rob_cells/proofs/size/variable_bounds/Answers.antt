use Rattle.std.proofs.Common.{arith}
use Rattle.rob_model.proofs.ConditionLemmas.{two_declared}
use Rattle.rob_cells.proofs.SizeLemmas.{variable_more}
use Rattle.rob_cells.proofs.size.variable_bounds.Goals as goal

pub overflow_add-count : goal.overflow_add-count
overflow_add-count g c =
    omega (
      arith,
      two_declared c.var-item.result.lower c.var-item.result.upper c.declared.ensures.count
          c.declared-in-loop-var.ensures.count,
    )

pub overflow_add-count-in-loop-var : goal.overflow_add-count-in-loop-var
overflow_add-count-in-loop-var g c =
    omega (
      arith,
      two_declared c.var-item.result.lower c.var-item.result.upper c.declared.ensures.count
          c.declared-in-loop-var.ensures.count,
      c.loop-var.invariant.few,
      c.loop-var-test.true,
      c.requires.few,
    )

pub loop-var-preserved : goal.loop-var-preserved
loop-var-preserved g c = record {
  rest = variable_more g.N.Exact.value c.args.vars.now c.loop-var.var-index c.var-item.result c.loop-var.count
      c.loop-var-test.true c.var-item.is c.declared.ensures.count c.declared-in-loop-var.ensures.count
      c.loop-var.invariant.rest;
  few = omega (
    arith,
    two_declared c.var-item.result.lower c.var-item.result.upper c.declared.ensures.count
        c.declared-in-loop-var.ensures.count,
    c.loop-var.invariant.few,
  );
}
