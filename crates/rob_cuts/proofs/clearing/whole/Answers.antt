use Rattle.std.proofs.Common.{◌<◌, ◌≤◌, sym, ◌∙◌, subst, nat_abs, arith}
use Rattle.rob_number.proofs.CastLemmas.{limit_seen, seen_small}
use Rattle.rob_sets.proofs.WholeRows.MachineProducts.{kept_fits, kept_seen, over_limit, within_limit}
use Rattle.rob_cuts.proofs.RayLemmas.{still_positive, whole_number, wide_times, zero_whole}
use Rattle.rob_cuts.proofs.clearing.whole.Goals as goal

pub quotient-times-requires : goal.quotient-times-requires
quotient-times-requires g c =
    record {
      positive = still_positive g.N.Exact.limit g.met.N.Exact.limit_high c.den.result c.den.ensures.within
          c.den.ensures.positive;
    }

pub product-number-requires-clause-left : goal.product-number-requires-clause-left
product-number-requires-clause-left g c =
    seen_small c.num-2.result (omega (arith, c.num-2.ensures.within, g.met.N.Exact.limit_high))

pub product-number-requires-clause-right : goal.product-number-requires-clause-right
product-number-requires-clause-right g c =
    omega (
      arith,
      c.if-times-LIMIT.false,
      limit_seen c.LIMIT.result g.N.Exact.limit (c.LIMIT.ensures ∙ g.met.N.Exact.limit_told)
          g.met.N.Exact.limit_high,
      g.met.N.Exact.limit_high,
    )

pub overflow_cast-result : goal.overflow_cast-result
overflow_cast-result g c =
    kept_fits g.N.Exact.limit c.LIMIT-2.result c.product-number.result c.unsigned_abs.result
    (c.LIMIT-2.ensures ∙ g.met.N.Exact.limit_told) g.met.N.Exact.limit_high c.product-number.ensures.size
    c.unsigned_abs.ensures.value c.if-unsigned_abs-LIMIT.true

pub returns-then-num-eq0 : goal.returns-then-num-eq0
returns-then-num-eq0 g c =
    record {
      whole = zero_whole g.N.Exact.limit g.met.N.Exact.limit_high c.args.common (g.N.Exact.value c.args.q) c.num.result
          c.num.ensures.numerator c.num.ensures.within c.if-num-eq0.true;
    }

pub returns-then-times-LIMIT : goal.returns-then-times-LIMIT
returns-then-times-LIMIT g c =
    record {
      whole = wide_times g.N.Exact.limit g.met.N.Exact.limit_high c.args.common (g.N.Exact.value c.args.q) c.num.result
          c.num.ensures.numerator c.num.ensures.within c.quotient-times.result c.den.result c.den.ensures.denominator
          c.den.ensures.within c.quotient-times.ensures.value c.if-num-eq0.false
          (subst (λ n. n < c.quotient-times.result)
          (limit_seen c.LIMIT.result g.N.Exact.limit (c.LIMIT.ensures ∙ g.met.N.Exact.limit_told)
          g.met.N.Exact.limit_high) c.if-times-LIMIT.true);
    }

pub returns-then-unsigned_abs-LIMIT : goal.returns-then-unsigned_abs-LIMIT
returns-then-unsigned_abs-LIMIT g c =
    let told = c.LIMIT-2.ensures ∙ g.met.N.Exact.limit_told in
    let is = whole_number g.N.Exact.limit g.met.N.Exact.limit_high c.args.common (g.N.Exact.value c.args.q)
    c.num-2.result c.num-2.ensures.numerator c.num-2.ensures.within c.quotient-times.result c.den.result
    c.den.ensures.denominator c.den.ensures.within c.quotient-times.ensures.value c.product-number.result
    c.product-number.ensures.value in
    let seen = kept_seen g.N.Exact.limit c.LIMIT-2.result c.product-number.result c.unsigned_abs.result told
    g.met.N.Exact.limit_high c.product-number.ensures.size c.unsigned_abs.ensures.value
    c.if-unsigned_abs-LIMIT.true in
    record {
      whole = (
        seen ∙ is,
        subst (λ z. nat_abs z ≤ g.N.Exact.limit) (sym seen) (within_limit g.N.Exact.limit c.LIMIT-2.result
            c.product-number.result c.unsigned_abs.result told g.met.N.Exact.limit_high
            c.product-number.ensures.size c.unsigned_abs.ensures.value c.if-unsigned_abs-LIMIT.true),
      );
    }

pub returns-else-unsigned_abs-LIMIT : goal.returns-else-unsigned_abs-LIMIT
returns-else-unsigned_abs-LIMIT g c =
    record {
      whole = subst (λ z. g.N.Exact.limit < nat_abs z)
          (whole_number g.N.Exact.limit g.met.N.Exact.limit_high c.args.common (g.N.Exact.value c.args.q)
          c.num-2.result c.num-2.ensures.numerator c.num-2.ensures.within c.quotient-times.result c.den.result
          c.den.ensures.denominator c.den.ensures.within c.quotient-times.ensures.value c.product-number.result
          c.product-number.ensures.value)
          (over_limit g.N.Exact.limit c.LIMIT-2.result c.product-number.result c.unsigned_abs.result
          (c.LIMIT-2.ensures ∙ g.met.N.Exact.limit_told) g.met.N.Exact.limit_high c.product-number.ensures.size
          c.unsigned_abs.ensures.value c.if-unsigned_abs-LIMIT.false);
    }
