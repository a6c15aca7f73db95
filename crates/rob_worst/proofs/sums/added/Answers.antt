use Rattle.std.proofs.Common.{◌<◌, nat_abs, ◌∙◌, subst}
use Rattle.rob_worst.proofs.SumLemmas.{factor_small, kept_fits, kept_is, over_limit, product_small, sum_value}
use Rattle.rob_worst.proofs.sums.added.Goals as goal

pub long_product-requires-clause-left : goal.long_product-requires-clause-left
long_product-requires-clause-left g c = factor_small c.args.a c.requires.left

pub long_product-requires-clause-right : goal.long_product-requires-clause-right
long_product-requires-clause-right g c = factor_small c.args.b c.requires.right

pub long_sum-next-requires-clause-left : goal.long_sum-next-requires-clause-left
long_sum-next-requires-clause-left g c = factor_small c.args.sum c.requires.sum

pub long_sum-next-requires-clause-right : goal.long_sum-next-requires-clause-right
long_sum-next-requires-clause-right g c = product_small c.long_product.result c.long_product.ensures.size

pub overflow_cast-result : goal.overflow_cast-result
overflow_cast-result g c =
    kept_fits g.N.Exact.limit c.LIMIT.result c.long_sum-next.result c.unsigned_abs.result
    (c.LIMIT.ensures ∙ g.met.N.Exact.limit_told) g.met.N.Exact.limit_high c.long_sum-next.ensures.size
    c.unsigned_abs.ensures.value c.if-unsigned_abs-LIMIT.true

pub returns-then-unsigned_abs-LIMIT : goal.returns-then-unsigned_abs-LIMIT
returns-then-unsigned_abs-LIMIT g c =
    record {
      sum = kept_is g.N.Exact.limit c.LIMIT.result c.long_sum-next.result c.unsigned_abs.result
          (c.LIMIT.ensures ∙ g.met.N.Exact.limit_told) g.met.N.Exact.limit_high c.long_sum-next.ensures.size
          c.unsigned_abs.ensures.value c.if-unsigned_abs-LIMIT.true _
          (sum_value c.long_sum-next.result c.args.sum c.long_product.result c.args.a c.args.b
          c.long_sum-next.ensures.value c.long_product.ensures.value c.long_product.ensures.size c.requires.sum
          c.requires.left c.requires.right);
    }

pub returns-else-unsigned_abs-LIMIT : goal.returns-else-unsigned_abs-LIMIT
returns-else-unsigned_abs-LIMIT g c =
    record {
      sum = subst (λ z. g.N.Exact.limit < nat_abs z)
          (sum_value c.long_sum-next.result c.args.sum c.long_product.result c.args.a c.args.b
          c.long_sum-next.ensures.value c.long_product.ensures.value c.long_product.ensures.size c.requires.sum
          c.requires.left c.requires.right)
          (over_limit g.N.Exact.limit c.LIMIT.result c.long_sum-next.result c.unsigned_abs.result
          (c.LIMIT.ensures ∙ g.met.N.Exact.limit_told) g.met.N.Exact.limit_high c.long_sum-next.ensures.size
          c.unsigned_abs.ensures.value c.if-unsigned_abs-LIMIT.false);
    }
