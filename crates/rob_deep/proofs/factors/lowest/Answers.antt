use Rattle.std.proofs.Common.{◌≡◌, ◌^◌, ◌<◌, ◌≤◌, sym, subst, arith, nat_abs}
use Rattle.std.proofs.lemmas.Int.{ints}
use Rattle.std.specs.Int.{◌∣◌}
use Rattle.rob_algebra.specs.Gcd.{gcd, IsGcd-gcd}
use Rattle.rob_rows.proofs.Divisors.{gcd-below, quotients_lowest}
use Rattle.rob_deep.proofs.Words.{seen}
use Rattle.rob_deep.proofs.LowestFactors.{quotient_read, gcd_read, quotient_size}
use Rattle.rob_deep.proofs.factors.lowest.Goals as goal

pub returns-then-common-le1-clause-lowest : goal.returns-then-common-le1-clause-lowest
returns-then-common-le1-clause-lowest c =
    let common : c.gcd128-common.result ≡ gcd (nat_abs c.args.p) (nat_abs c.args.q) =
    gcd_read c.args.p c.args.q c.unsigned_abs.result c.unsigned_abs-2.result c.gcd128-common.result c.ranges.p
    c.ranges.q c.unsigned_abs.ensures.value c.unsigned_abs-2.ensures.value
    c.gcd128-common.ensures.divisor in
    let few : gcd (nat_abs c.args.p) (nat_abs c.args.q) ≤ 1 = omega arith in
    rw (seen c.args.p c.ranges.p, seen c.args.q c.ranges.q)
    (record { lowest = few; p_size = c.requires.p_size; q_size = c.requires.q_size })

pub overflow_cast-result : goal.overflow_cast-result
overflow_cast-result c =
    let common : c.gcd128-common.result ≡ gcd (nat_abs c.args.p) (nat_abs c.args.q) =
    gcd_read c.args.p c.args.q c.unsigned_abs.result c.unsigned_abs-2.result c.gcd128-common.result c.ranges.p
    c.ranges.q c.unsigned_abs.ensures.value c.unsigned_abs-2.ensures.value
    c.gcd128-common.ensures.divisor in
    let below : c.gcd128-common.result < 2 ^ 126 =
    subst (λ t. t < 2 ^ 126) (sym common)
    (gcd-below (nat_abs c.args.p) (nat_abs c.args.q) (2 ^ 126) c.requires.p_size c.requires.q_size) in
    omega (arith, ints)

pub overflow_cast-result-2 : goal.overflow_cast-result-2
overflow_cast-result-2 c =
    let common : c.gcd128-common.result ≡ gcd (nat_abs c.args.p) (nat_abs c.args.q) =
    gcd_read c.args.p c.args.q c.unsigned_abs.result c.unsigned_abs-2.result c.gcd128-common.result c.ranges.p
    c.ranges.q c.unsigned_abs.ensures.value c.unsigned_abs-2.ensures.value
    c.gcd128-common.ensures.divisor in
    let below : c.gcd128-common.result < 2 ^ 126 =
    subst (λ t. t < 2 ^ 126) (sym common)
    (gcd-below (nat_abs c.args.p) (nat_abs c.args.q) (2 ^ 126) c.requires.p_size c.requires.q_size) in
    omega (arith, ints)

pub returns-clause-multiple : goal.returns-clause-multiple
returns-clause-multiple c =
    let g = c.gcd128-common.result in
    let common : g ≡ gcd (nat_abs c.args.p) (nat_abs c.args.q) =
    gcd_read c.args.p c.args.q c.unsigned_abs.result c.unsigned_abs-2.result g c.ranges.p c.ranges.q
    c.unsigned_abs.ensures.value c.unsigned_abs-2.ensures.value c.gcd128-common.ensures.divisor in
    let below : g < 2 ^ 126 =
    subst (λ t. t < 2 ^ 126) (sym common)
    (gcd-below (nat_abs c.args.p) (nat_abs c.args.q) (2 ^ 126) c.requires.p_size c.requires.q_size) in
    let divides = IsGcd-gcd (nat_abs c.args.p) (nat_abs c.args.q) in
    let some : 0 < g = omega arith in
    record {
      times = g;
      positive = some;
      first = quotient_read c.args.p g c.ranges.p some below (subst (λ t. t ∣ nat_abs c.args.p) (sym common) divides.0);
      second = quotient_read c.args.q g c.ranges.q some below
          (subst (λ t. t ∣ nat_abs c.args.q) (sym common) divides.1);
    }

pub returns-clause-lowest : goal.returns-clause-lowest
returns-clause-lowest c =
    let g = c.gcd128-common.result in
    let common : g ≡ gcd (nat_abs c.args.p) (nat_abs c.args.q) =
    gcd_read c.args.p c.args.q c.unsigned_abs.result c.unsigned_abs-2.result g c.ranges.p c.ranges.q
    c.unsigned_abs.ensures.value c.unsigned_abs-2.ensures.value c.gcd128-common.ensures.divisor in
    let below : g < 2 ^ 126 =
    subst (λ t. t < 2 ^ 126) (sym common)
    (gcd-below (nat_abs c.args.p) (nat_abs c.args.q) (2 ^ 126) c.requires.p_size c.requires.q_size) in
    let divides = IsGcd-gcd (nat_abs c.args.p) (nat_abs c.args.q) in
    let some : 0 < g = omega arith in
    let first =
    quotient_read c.args.p g c.ranges.p some below (subst (λ t. t ∣ nat_abs c.args.p) (sym common) divides.0) in
    let second =
    quotient_read c.args.q g c.ranges.q some below (subst (λ t. t ∣ nat_abs c.args.q) (sym common) divides.1) in
    record {
      lowest = quotients_lowest c.args.p c.args.q _ _ g some common first second;
      p_size = quotient_size c.args.p _ g some first c.requires.p_size;
      q_size = quotient_size c.args.q _ g some second c.requires.q_size;
    }
