use Rattle.std.proofs.Common.{◌<◌, ◌^◌, nat_abs, arith, ◌∙◌, ap, to_z-of_z, to_z, w64, refl}
use Rattle.std.proofs.lemmas.Int.{ints}
use Rattle.rob_algebra.specs.Fraction.{of_pair}
use Rattle.rob_number.specs.Lowest.{limit_of, limit_high, with_sign}
use Rattle.rob_number.proofs.LowestLemmas.{computed, wide_computed, reduced_lowest, reduced_exact}
use Rattle.rob_number.proofs.fraction.Frac.reduced.Goals as goal

pub returns-then-size-limit : goal.returns-then-size-limit
returns-then-size-limit g c = record {
  exact = wide_computed (limit_of g.row.B) c.limit-limit.result (of_pair c.args.num c.args.den) c.args.num
      c.lowest-size.result.0 c.lowest-size.result.1
      (computed c.args.num c.args.den c.unsigned_abs.result c.lowest-size.result.0
      c.lowest-size.result.1 c.requires.positive
      (c.unsigned_abs.ensures.value ∙ ap nat_abs (to_z-of_z c.ranges.num)) c.lowest-size.ensures.size
      c.lowest-size.ensures.den)
      c.limit-limit.ensures.limit c.then-size-limit.either;
}

small-size : (g : _) (c : goal.Else-bottom-limit g) → c.lowest-size.result.0 < 2 ^ 62
small-size g c = omega (arith, limit_high g.row.B, c.limit-limit.ensures.limit, c.if-size-limit.false)

small-den : (g : _) (c : goal.Else-bottom-limit g) → c.lowest-size.result.1 < 2 ^ 62
small-den g c = omega (arith, limit_high g.row.B, c.limit-limit.ensures.limit, c.if-bottom-limit.false)

pub overflow_cast-size : goal.overflow_cast-size
overflow_cast-size g c = let h : c.lowest-size.result.0 < 2 ^ 62 = small-size g c in omega (arith, ints)

pub signed-requires-clause-small : goal.signed-requires-clause-small
signed-requires-clause-small g c = let h : c.lowest-size.result.0 < 2 ^ 62 = small-size g c in omega (arith, ints)

pub signed-requires-clause-positive : goal.signed-requires-clause-positive
signed-requires-clause-positive g c = let h : c.lowest-size.result.0 < 2 ^ 62 = small-size g c in omega (arith, ints)

pub overflow_cast-result : goal.overflow_cast-result
overflow_cast-result g c =
    let h : c.lowest-size.result.1 < 2 ^ 62 =
    omega (arith, limit_high g.row.B, c.limit-limit.ensures.limit, c.if-bottom-limit.false) in omega (arith, ints)

pub invariant_of-result : goal.invariant_of-result
invariant_of-result g c = record {
  lowest = reduced_lowest g.row.B c.limit-limit.result (of_pair c.args.num c.args.den) c.args.num c.lowest-size.result.0
      c.lowest-size.result.1 c.signed.result
      (computed c.args.num c.args.den c.unsigned_abs.result c.lowest-size.result.0
      c.lowest-size.result.1 c.requires.positive
      (c.unsigned_abs.ensures.value ∙ ap nat_abs (to_z-of_z c.ranges.num)) c.lowest-size.ensures.size
      c.lowest-size.ensures.den)
      c.limit-limit.ensures.limit c.if-size-limit.false c.if-bottom-limit.false
      (c.signed.ensures.value
      ∙ ap (λ z. with_sign z (nat_abs (to_z w64 c.lowest-size.result.0))) (to_z-of_z c.ranges.num));
}

pub returns : goal.returns
returns g c = record {
  exact = reduced_exact g.row.B c.limit-limit.result (of_pair c.args.num c.args.den) c.args.num c.lowest-size.result.0
      c.lowest-size.result.1 c.signed.result
      (computed c.args.num c.args.den c.unsigned_abs.result c.lowest-size.result.0
      c.lowest-size.result.1 c.requires.positive
      (c.unsigned_abs.ensures.value ∙ ap nat_abs (to_z-of_z c.ranges.num)) c.lowest-size.ensures.size
      c.lowest-size.ensures.den)
      c.limit-limit.ensures.limit c.if-size-limit.false c.if-bottom-limit.false
      (c.signed.ensures.value
      ∙ ap (λ z. with_sign z (nat_abs (to_z w64 c.lowest-size.result.0))) (to_z-of_z c.ranges.num)) _ refl refl;
}
