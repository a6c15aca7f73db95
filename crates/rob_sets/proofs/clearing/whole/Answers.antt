use Rattle.std.proofs.Common.{◌/◌, ℤ, pos, ◌<ℤ◌, ◌<◌, ◌≤◌, nat_abs, ap, sym, ◌∙◌, subst, arith}
use Rattle.rob_number.proofs.CastLemmas.{product_value, seen_small, seen_within}
use Rattle.rob_sets.proofs.WholeRows.MachineProducts.{kept_fits, kept_seen, over_limit, within_limit}
use Rattle.rob_sets.proofs.clearing.whole.Goals as goal

pub quotient-times-requires-clause-within : goal.quotient-times-requires-clause-within
quotient-times-requires-clause-within g c = omega (arith, c.requires.within, g.met.N.Exact.limit_high)

pub quotient-times-requires-clause-positive : goal.quotient-times-requires-clause-positive
quotient-times-requires-clause-positive g c =
    subst (λ z. pos 0 <ℤ z)
    (sym (seen_within g.N.Exact.limit c.den.result g.met.N.Exact.limit_high c.den.ensures.within))
    c.den.ensures.positive

pub long_product-number-requires-clause-left : goal.long_product-number-requires-clause-left
long_product-number-requires-clause-left g c =
    seen_small c.num.result (omega (arith, c.num.ensures.within, g.met.N.Exact.limit_high))

pub long_product-number-requires-clause-right : goal.long_product-number-requires-clause-right
long_product-number-requires-clause-right g c = seen_small c.quotient-times.result c.quotient-times.ensures.size

pub overflow_cast-result : goal.overflow_cast-result
overflow_cast-result g c =
    kept_fits g.N.Exact.limit c.LIMIT.result c.long_product-number.result c.unsigned_abs.result
    (c.LIMIT.ensures ∙ g.met.N.Exact.limit_told) g.met.N.Exact.limit_high c.long_product-number.ensures.size
    c.unsigned_abs.ensures.value c.if-unsigned_abs-LIMIT.true

pub returns-then-unsigned_abs-LIMIT : goal.returns-then-unsigned_abs-LIMIT
returns-then-unsigned_abs-LIMIT g c =
    let q = g.N.Exact.value c.args.q in
    let is = product_value c.long_product-number.result c.num.result c.quotient-times.result q.num
    (pos (c.args.common / q.den)) c.long_product-number.ensures.value
    (omega (arith, c.num.ensures.within, g.met.N.Exact.limit_high)) c.quotient-times.ensures.size
    c.num.ensures.numerator
    (c.quotient-times.ensures.value ∙ ap (λ z. pos (c.args.common / nat_abs z))
    (seen_within g.N.Exact.limit c.den.result g.met.N.Exact.limit_high c.den.ensures.within
    ∙ c.den.ensures.denominator)) in
    let told = c.LIMIT.ensures ∙ g.met.N.Exact.limit_told in
    let seen = kept_seen g.N.Exact.limit c.LIMIT.result c.long_product-number.result c.unsigned_abs.result told
    g.met.N.Exact.limit_high c.long_product-number.ensures.size c.unsigned_abs.ensures.value
    c.if-unsigned_abs-LIMIT.true in
    record {
      whole = (
        seen ∙ is,
        subst (λ z. nat_abs z ≤ g.N.Exact.limit) (sym seen) (within_limit g.N.Exact.limit c.LIMIT.result
            c.long_product-number.result c.unsigned_abs.result told g.met.N.Exact.limit_high
            c.long_product-number.ensures.size c.unsigned_abs.ensures.value c.if-unsigned_abs-LIMIT.true),
      );
    }

pub returns-else-unsigned_abs-LIMIT : goal.returns-else-unsigned_abs-LIMIT
returns-else-unsigned_abs-LIMIT g c =
    let q = g.N.Exact.value c.args.q in
    let is = product_value c.long_product-number.result c.num.result c.quotient-times.result q.num
    (pos (c.args.common / q.den)) c.long_product-number.ensures.value
    (omega (arith, c.num.ensures.within, g.met.N.Exact.limit_high)) c.quotient-times.ensures.size
    c.num.ensures.numerator
    (c.quotient-times.ensures.value ∙ ap (λ z. pos (c.args.common / nat_abs z))
    (seen_within g.N.Exact.limit c.den.result g.met.N.Exact.limit_high c.den.ensures.within
    ∙ c.den.ensures.denominator)) in
    record {
      whole = subst (λ z. g.N.Exact.limit < nat_abs z) is (over_limit g.N.Exact.limit c.LIMIT.result
          c.long_product-number.result c.unsigned_abs.result (c.LIMIT.ensures ∙ g.met.N.Exact.limit_told)
          g.met.N.Exact.limit_high c.long_product-number.ensures.size c.unsigned_abs.ensures.value
          c.if-unsigned_abs-LIMIT.false);
    }
