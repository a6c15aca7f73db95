use Rattle.std.proofs.Common.{ap, ◌∙◌, map}
use Rattle.rob_rules.specs.declared.degree.Weight.{Weight}
use Rattle.rob_syntax.specs.Trees.{tree_of, part_of, summands_of, operands_of}
use Rattle.rob_rules.proofs.Trees.WeightLemmas.{sum_from, sum_whole, product_whole}
use Rattle.rob_rules.proofs.Trees.WalkLemmas.{sum_step, sum_end, product_step, product_end}
use Rattle.rob_rules.proofs.degree.+weigh.Goals as goal

pub weigh_sum-loop-part-init : goal.weigh_sum-loop-part-init
weigh_sum-loop-part-init t c =
    let parts = summands_of (map part_of c.args.parts.now) in
    ap (λ (w : Weight). sum_from c.args.sorts.now w parts) c.nothing-so_far.ensures.weight
    ∙ sum_whole c.args.sorts.now parts

pub weigh_sum-loop-part-preserved : goal.weigh_sum-loop-part-preserved
weigh_sum-loop-part-preserved t c =
    sum_step c.args.sorts.now c.args.parts.now c.loop-part.part-index c.loop-part.so_far c.part-item.result
    c.loop-part-test.true c.part-item.is c.weigh-inner.ensures.weight c.joined-so_far.ensures.weight
    c.loop-part.invariant

pub weigh_sum-returns : goal.weigh_sum-returns
weigh_sum-returns t c =
    record {
      weight =
          sum_end c.args.sorts.now c.args.parts.now c.loop-part.part-index c.loop-part-test.false c.loop-part.invariant;
    }

pub weigh_product-loop-factor-init : goal.weigh_product-loop-factor-init
weigh_product-loop-factor-init t c = product_whole c.args.sorts.now (operands_of (map tree_of c.args.factors.now))

pub weigh_product-loop-factor-preserved : goal.weigh_product-loop-factor-preserved
weigh_product-loop-factor-preserved t c =
    product_step c.args.sorts.now c.args.factors.now c.loop-factor.factor-index c.loop-factor.so_far
    c.factor-item.result c.loop-factor-test.true c.factor-item.is c.weigh-next.ensures.weight
    c.multiplied.ensures.weight c.loop-factor.invariant

pub weigh_product-returns : goal.weigh_product-returns
weigh_product-returns t c =
    record {
      weight =
          c.unwrap_or.ensures ∙ product_end c.args.sorts.now c.args.factors.now c.loop-factor.factor-index
          c.loop-factor.so_far c.loop-factor-test.false c.nothing.ensures.weight c.loop-factor.invariant;
    }
