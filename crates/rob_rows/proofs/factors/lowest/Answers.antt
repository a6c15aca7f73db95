use Rattle.std.proofs.Common.{◌≡◌, ◌^◌, ◌<◌, ◌≤◌, ◌∙◌, ap, sym, subst, arith, nat_abs}
use Rattle.std.proofs.lemmas.Int.{ints}
use Rattle.std.specs.Int.{◌∣◌}
use Rattle.rob_algebra.specs.Gcd.{gcd, IsGcd-gcd}
use Rattle.rob_rows.proofs.Divisors.{gcd-below, quotients_lowest}
use Rattle.rob_rows.proofs.SignedQuotients.{quotient_read, gcd_read}
use Rattle.rob_rows.proofs.factors.lowest.Goals as goal

pub overflow_cast-result : goal.overflow_cast-result
overflow_cast-result c =
    let common =
    gcd_read c.args.p c.args.q c.unsigned_abs.result c.unsigned_abs-2.result c.gcd64-common.result
    c.ranges.p c.ranges.q c.unsigned_abs.ensures.value c.unsigned_abs-2.ensures.value
    c.gcd64-common.ensures.divisor in
    let below : c.gcd64-common.result < 2 ^ 62 =
    subst (λ t. t < 2 ^ 62) (sym common)
    (gcd-below (nat_abs c.args.p) (nat_abs c.args.q) (2 ^ 62) c.requires.p_size c.requires.q_size) in
    omega (arith, ints)

pub overflow_cast-result-2 : goal.overflow_cast-result-2
overflow_cast-result-2 c =
    let common =
    gcd_read c.args.p c.args.q c.unsigned_abs.result c.unsigned_abs-2.result c.gcd64-common.result
    c.ranges.p c.ranges.q c.unsigned_abs.ensures.value c.unsigned_abs-2.ensures.value
    c.gcd64-common.ensures.divisor in
    let below : c.gcd64-common.result < 2 ^ 62 =
    subst (λ t. t < 2 ^ 62) (sym common)
    (gcd-below (nat_abs c.args.p) (nat_abs c.args.q) (2 ^ 62) c.requires.p_size c.requires.q_size) in
    omega (arith, ints)

pub returns-clause-multiple : goal.returns-clause-multiple
returns-clause-multiple c =
    let g = c.gcd64-common.result in
    let common : g ≡ gcd (nat_abs c.args.p) (nat_abs c.args.q) =
    gcd_read c.args.p c.args.q c.unsigned_abs.result c.unsigned_abs-2.result g c.ranges.p c.ranges.q
    c.unsigned_abs.ensures.value c.unsigned_abs-2.ensures.value c.gcd64-common.ensures.divisor in
    let below : g < 2 ^ 62 =
    subst (λ t. t < 2 ^ 62) (sym common)
    (gcd-below (nat_abs c.args.p) (nat_abs c.args.q) (2 ^ 62) c.requires.p_size c.requires.q_size) in
    let divides = IsGcd-gcd (nat_abs c.args.p) (nat_abs c.args.q) in
    let some : 0 < g = omega arith in
    record {
      times = g;
      positive = some;
      first = quotient_read c.args.p g c.ranges.p some below (subst (λ t. t ∣ nat_abs c.args.p) (sym common) divides.0);
      second = quotient_read c.args.q g c.ranges.q some below
          (subst (λ t. t ∣ nat_abs c.args.q) (sym common) divides.1);
    }

pub returns-then-common-le1-clause-lowest : goal.returns-then-common-le1-clause-lowest
returns-then-common-le1-clause-lowest c =
    subst (λ t. t ≤ 1) (c.gcd64-common.ensures.divisor
    ∙ ap (λ t. gcd t c.unsigned_abs-2.result) c.unsigned_abs.ensures.value
    ∙ ap (gcd _) c.unsigned_abs-2.ensures.value)
    c.if-common-le1.true

pub returns-clause-lowest : goal.returns-clause-lowest
returns-clause-lowest c =
    let g = c.gcd64-common.result in
    let common : g ≡ gcd (nat_abs c.args.p) (nat_abs c.args.q) =
    gcd_read c.args.p c.args.q c.unsigned_abs.result c.unsigned_abs-2.result g c.ranges.p c.ranges.q
    c.unsigned_abs.ensures.value c.unsigned_abs-2.ensures.value c.gcd64-common.ensures.divisor in
    let below : g < 2 ^ 62 =
    subst (λ t. t < 2 ^ 62) (sym common)
    (gcd-below (nat_abs c.args.p) (nat_abs c.args.q) (2 ^ 62) c.requires.p_size c.requires.q_size) in
    let divides = IsGcd-gcd (nat_abs c.args.p) (nat_abs c.args.q) in
    let some : 0 < g = omega arith in
    let first =
    quotient_read c.args.p g c.ranges.p some below (subst (λ t. t ∣ nat_abs c.args.p) (sym common) divides.0) in
    let second =
    quotient_read c.args.q g c.ranges.q some below (subst (λ t. t ∣ nat_abs c.args.q) (sym common) divides.1) in
    quotients_lowest c.args.p c.args.q _ _ g some common first second
