use Rattle.std.proofs.Common.{arith}
use Rattle.std.proofs.lemmas.List.{length-map}
use Rattle.rob_model.specs.View.{robust, adaptive_of}
use Rattle.rob_number.proofs.CountLemmas.{later}
use Rattle.rob_sets.proofs.Expressions.LeafLemmas.{adaptive_in_is, adaptive_inside, number_leaf, parameter_leaf, product_is, rule_leaf, sum_is, variable_inside, variable_leaf}
use Rattle.rob_sets.proofs.Expressions.ProductSteps.{product_apart, product_begins, product_ends, product_goes_on, product_part_stops, product_stops}
use Rattle.rob_sets.proofs.Expressions.SumSteps.{sum_begins, sum_ends, sum_goes_on, sum_part_stops, sum_stops}
use Rattle.rob_sets.proofs.Expressions.TabulatingLemmas.{memory_stops, tabulates_as}
use Rattle.rob_sets.proofs.expression.+coefficients.Goals as goal

-- ---- leaves
pub coefficients-overflow_add-k-in-Var : goal.coefficients-overflow_add-k-in-Var
coefficients-overflow_add-k-in-Var g t c =
    let inside =
    variable_inside g.N.Exact.value (robust g.N.Exact.value c.args.model.now) c.in-Var.is c.requires.inside in
    omega (arith, inside, c.requires.valid.limits.columns)

pub coefficients-rule_table-requires-clause-inside : goal.coefficients-rule_table-requires-clause-inside
coefficients-rule_table-requires-clause-inside g t c =
    let value = g.N.Exact.value in
    let inside = adaptive_inside value (robust value c.args.model.now) c.in-Adaptive.is c.requires.inside in
    omega (arith, inside, length-map c.args.model.now.adaptives (adaptive_of value))

pub coefficients-returns-in-Number-clause-table : goal.coefficients-returns-in-Number-clause-table
coefficients-returns-in-Number-clause-table g t c =
    number_leaf _ _ g.met.N.Exact.fits g.met.N.Exact.limit_low _ _ _ c.single.result c.in-Number.is
    c.single.ensures.number c.single.ensures.memory

pub coefficients-returns-in-Param-clause-table : goal.coefficients-returns-in-Param-clause-table
coefficients-returns-in-Param-clause-table g t c =
    parameter_leaf _ _ g.met.N.Exact.fits g.met.N.Exact.limit_low _ _ _ c.unit.result c.in-Param.is
    c.unit.ensures.number c.unit.ensures.memory

pub coefficients-returns-in-Var-clause-table : goal.coefficients-returns-in-Var-clause-table
coefficients-returns-in-Var-clause-table g t c =
    variable_leaf _ _ g.met.N.Exact.fits g.met.N.Exact.limit_low _ _ _ c.unit-in-Var.result c.in-Var.is
    c.unit-in-Var.ensures.number c.unit-in-Var.ensures.memory

pub coefficients-returns-in-Adaptive-clause-table : goal.coefficients-returns-in-Adaptive-clause-table
coefficients-returns-in-Adaptive-clause-table g t c =
    rule_leaf _ _ g.met.N.Exact.fits g.met.N.Exact.limit_low _ _ _ _ c.in-Adaptive.is c.rule_table.ensures.table

pub coefficients-returns-in-AdaptiveIn-clause-table : goal.coefficients-returns-in-AdaptiveIn-clause-table
coefficients-returns-in-AdaptiveIn-clause-table g t c =
    tabulates_as _ _ _ _ _ _ _ _ (adaptive_in_is _ _ _ _ c.in-AdaptiveIn.is) c.rule_table-in-AdaptiveIn.ensures.table

-- ---- sums and products
pub coefficients-returns-in-Sum-clause-table : goal.coefficients-returns-in-Sum-clause-table
coefficients-returns-in-Sum-clause-table g t c =
    tabulates_as _ _ _ _ _ _ _ _ (sum_is _ _ _ _ c.in-Sum.is c.items.ensures.list) c.sum.ensures.table

pub coefficients-returns-in-Product-clause-table : goal.coefficients-returns-in-Product-clause-table
coefficients-returns-in-Product-clause-table g t c =
    tabulates_as _ _ _ _ _ _ _ _ (product_is _ _ _ _ c.in-Product.is c.items-in-Product.ensures.list)
    c.product.ensures.table

-- ---- term by term
pub sum-loop-term-init : goal.sum-loop-term-init
sum-loop-term-init g t c = record {
  so_far = sum_begins c.new-so_far.ensures.zero c.requires.inside c.requires.linear;
  counted = record { ops = omega arith; wides = omega arith };
}

pub sum-returns-in_err-part-clause-table : goal.sum-returns-in_err-part-clause-table
sum-returns-in_err-part-clause-table g t c =
    sum_part_stops c.loop-term.invariant.so_far c.loop-term-test.true c.term-item.is _ _ _ c.from_residual.result
    c.in_err-part.field-0.0 c.loop-term.invariant.counted.wides c.in_err-part.ensures.table c.from_residual.ensures.1

pub sum-returns-in_err-join-clause-table : goal.sum-returns-in_err-join-clause-table
sum-returns-in_err-join-clause-table g t c =
    sum_stops c.loop-term.invariant.so_far c.loop-term-test.true c.term-item.is c.in_ok-part.ensures.table
    _ (g.L.Ledger.wides c.coefficients.new.ledger) _ c.from_residual-in_err-join.result c.in_err-join.field-0.0
    (omega (arith, c.loop-term.invariant.counted.wides, c.coefficients.ensures.counted.wides))
    c.in_err-join.ensures.wide c.from_residual-in_err-join.ensures.1

pub sum-loop-term-preserved : goal.sum-loop-term-preserved
sum-loop-term-preserved g t c = record {
  so_far = sum_goes_on c.loop-term.invariant.so_far c.loop-term-test.true c.term-item.is c.in_ok-part.ensures.table
      g.met.N.Exact.fits g.met.N.Exact.limit_low _ c.in_ok-join.ensures.joined;
  counted = later (later c.loop-term.invariant.counted c.coefficients.ensures.counted) c.join.ensures.counted;
}

pub sum-returns-clause-table : goal.sum-returns-clause-table
sum-returns-clause-table g t c = sum_ends c.loop-term.invariant.so_far c.loop-term-test.false

-- ---- factor by factor
pub product-loop-factor-init : goal.product-loop-factor-init
product-loop-factor-init g t c = record {
  so_far = product_begins c.in_ok-so_far.ensures.number c.requires.inside c.requires.linear c.requires.uncertain
      c.requires.decision;
  counted = c.unit.ensures.counted;
}

pub product-returns-in_err-so_far-clause-table : goal.product-returns-in_err-so_far-clause-table
product-returns-in_err-so_far-clause-table g t c =
    memory_stops _ _ _ _ _ _ c.from_residual.result c.in_err-so_far.field-0.0 c.in_err-so_far.ensures.memory
    c.from_residual.ensures.1

pub product-returns-in_err-part-clause-table : goal.product-returns-in_err-part-clause-table
product-returns-in_err-part-clause-table g t c =
    product_part_stops c.loop-factor.invariant.so_far c.loop-factor-test.true c.factor-item.is _ _ _
    c.from_residual-in_err-part.result c.in_err-part.field-0.0 c.loop-factor.invariant.counted.wides
    c.in_err-part.ensures.table c.from_residual-in_err-part.ensures.1

pub product-times-requires : goal.product-times-requires
product-times-requires g t c = record {
  apart = product_apart c.loop-factor.invariant.so_far c.loop-factor-test.true c.factor-item.is
      c.in_ok-part.ensures.table;
}

pub product-returns-in_err-so_far-2-clause-table : goal.product-returns-in_err-so_far-2-clause-table
product-returns-in_err-so_far-2-clause-table g t c =
    product_stops c.loop-factor.invariant.so_far c.loop-factor-test.true c.factor-item.is c.in_ok-part.ensures.table
    _ (g.L.Ledger.wides c.coefficients.new.ledger) _ c.from_residual-in_err-so_far-2.result c.in_err-so_far-2.field-0.0
    (omega (arith, c.loop-factor.invariant.counted.wides, c.coefficients.ensures.counted.wides))
    c.in_err-so_far-2.ensures.wide c.from_residual-in_err-so_far-2.ensures.1

pub product-loop-factor-preserved : goal.product-loop-factor-preserved
product-loop-factor-preserved g t c = record {
  so_far = product_goes_on c.loop-factor.invariant.so_far c.loop-factor-test.true c.factor-item.is
      c.in_ok-part.ensures.table g.met.N.Exact.fits g.met.N.Exact.limit_low _ c.in_ok-so_far-2.ensures.product;
  counted = later (later c.loop-factor.invariant.counted c.coefficients.ensures.counted) c.times.ensures.counted;
}

pub product-returns-clause-table : goal.product-returns-clause-table
product-returns-clause-table g t c = product_ends c.loop-factor.invariant.so_far c.loop-factor-test.false
