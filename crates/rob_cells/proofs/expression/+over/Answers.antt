use Rattle.std.proofs.Common.{map}
use Rattle.rob_cells.proofs.ExpressionLemmas.{adaptive_in_inside, adaptive_in_over, adaptive_inside, adaptive_over, number_over, parameter_inside, parameter_over, part_over, product_over, sum_over, variable_over}
use Rattle.rob_cells.proofs.ListLemmas.{mapped_more}
use Rattle.rob_cells.specs.Building.{signed_over}
use Rattle.rob_model.proofs.PartLemmas.{factors_inside, terms_inside}
use Rattle.rob_model.specs.View.{expression_of, robust, signed_of}
use Rattle.rob_pieces.specs.SplitModel.{over_cell}
use Rattle.rob_cells.proofs.expression.+over.Goals as goal

pub expr_over-returns-in-Number : goal.expr_over-returns-in-Number
expr_over-returns-in-Number g t c = record {
  over = number_over g.N.Exact.value (robust g.N.Exact.value c.args.model.now) c.args.c c.in-Number.is;
}

pub expr_over-returns-in-Param : goal.expr_over-returns-in-Param
expr_over-returns-in-Param g t c = record {
  over = parameter_over g.N.Exact.value (robust g.N.Exact.value c.args.model.now) c.args.c c.in-Param.is
      c.param_in.ensures.number;
}

pub expr_over-returns-in-Var : goal.expr_over-returns-in-Var
expr_over-returns-in-Var g t c = record {
  over = variable_over g.N.Exact.value (robust g.N.Exact.value c.args.model.now) c.args.c c.in-Var.is;
}

pub expr_over-returns-in-Adaptive : goal.expr_over-returns-in-Adaptive
expr_over-returns-in-Adaptive g t c = record {
  over = adaptive_over g.N.Exact.value (robust g.N.Exact.value c.args.model.now) c.args.c c.in-Adaptive.is
      c.rule_in.ensures.number;
}

pub expr_over-returns-in-AdaptiveIn : goal.expr_over-returns-in-AdaptiveIn
expr_over-returns-in-AdaptiveIn g t c = record {
  over = adaptive_in_over g.N.Exact.value (robust g.N.Exact.value c.args.model.now) c.args.c c.in-AdaptiveIn.is
      c.rule_in-in-AdaptiveIn.ensures.number;
}

pub expr_over-param_in-requires-clause-inside : goal.expr_over-param_in-requires-clause-inside
expr_over-param_in-requires-clause-inside g t c =
    parameter_inside g.N.Exact.value c.args.model.now c.requires.inside c.in-Param.is

pub expr_over-rule_in-requires-clause-inside : goal.expr_over-rule_in-requires-clause-inside
expr_over-rule_in-requires-clause-inside g t c =
    adaptive_inside g.N.Exact.value c.args.model.now c.requires.inside c.in-Adaptive.is

pub expr_over-rule_in-requires-in-AdaptiveIn-clause-inside : goal.expr_over-rule_in-requires-in-AdaptiveIn-clause-inside
expr_over-rule_in-requires-in-AdaptiveIn-clause-inside g t c =
    adaptive_in_inside g.N.Exact.value c.args.model.now c.requires.inside c.in-AdaptiveIn.is

pub expr_over-returns-in_ok-terms_over-in-Sum : goal.expr_over-returns-in_ok-terms_over-in-Sum
expr_over-returns-in_ok-terms_over-in-Sum g t c = record {
  over = sum_over (robust g.N.Exact.value c.args.model.now) c.args.c g.N.Exact.value
      c.in_ok-terms_over-in-Sum.field-0 c.in-Sum.is c.items.ensures.list c.in_ok-terms_over-in-Sum.ensures.over;
}

pub expr_over-returns-in_ok-factors_over-in-Product : goal.expr_over-returns-in_ok-factors_over-in-Product
expr_over-returns-in_ok-factors_over-in-Product g t c = record {
  over = product_over (robust g.N.Exact.value c.args.model.now) c.args.c g.N.Exact.value
      c.in_ok-factors_over-in-Product.field-0 c.in-Product.is c.items-in-Product.ensures.list
      c.in_ok-factors_over-in-Product.ensures.over;
}

pub factors_over-loop-factor-preserved : goal.factors_over-loop-factor-preserved
factors_over-loop-factor-preserved g t c =
    let value = g.N.Exact.value in
    let m = robust value c.args.model.now in
    record {
      made = mapped_more (expression_of value) (expression_of value) (over_cell m c.args.c) c.args.factors.now
          (map (over_cell m c.args.c) (map (expression_of value) c.args.factors.now))
          c.loop-factor.factor-index c.factor-item.result c.in_ok-next.next c.loop-factor.over c.push.new.self
          c.loop-factor-test.true c.factor-item.is c.in_ok-next.ensures.over c.in_ok-push.ensures.appended
          c.loop-factor.invariant.made;
      inside = (factors_inside value m c.args.factors.now c.loop-factor.factor-index c.factor-item.result
          c.loop-factor-test.true c.factor-item.is c.loop-factor.invariant.inside).1;
    }

pub terms_over-loop-term-preserved : goal.terms_over-loop-term-preserved
terms_over-loop-term-preserved g t c =
    let value = g.N.Exact.value in
    let m = robust value c.args.model.now in
    record {
      made = mapped_more (signed_of value) (signed_of value) (signed_over m c.args.c) c.args.terms.now
          (map (signed_over m c.args.c) (map (signed_of value) c.args.terms.now))
          c.loop-term.term-index c.term-item.result _ c.loop-term.over c.push.new.self
          c.loop-term-test.true c.term-item.is
          (part_over m c.args.c value c.in_ok-inner.inner c.term-item.result c.in_ok-inner.ensures.over)
          c.in_ok-push.ensures.appended c.loop-term.invariant.made;
      inside = (terms_inside value m c.args.terms.now c.loop-term.term-index c.term-item.result c.loop-term-test.true
          c.term-item.is c.loop-term.invariant.inside).1;
    }
