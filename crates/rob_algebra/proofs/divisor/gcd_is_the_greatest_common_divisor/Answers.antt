use Rattle.std.proofs.Common.{refl}
use Rattle.rob_algebra.specs.Gcd.{gcd-zero, IsGcd-gcd, gcd_is, gcd-mul, gcd-reduced, gauss}
use Rattle.rob_algebra.proofs.divisor.gcd_is_the_greatest_common_divisor.Goals as goal

pub returns : goal.returns
returns c = record {
  divides = λ a b. ((IsGcd-gcd a b).0, (IsGcd-gcd a b).1);
  greatest = λ a b d h k. (IsGcd-gcd a b).2 d h k;
  determined = gcd_is;
  zeros = gcd-zero 0 0 refl;
  scaled = gcd-mul;
  lowest_terms = gcd-reduced;
  gauss = gauss;
}
