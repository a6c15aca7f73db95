use Rattle.rob_algebra.specs.FractionOrder.{eq_ℚ-decides, cmp_ℚ-ranks}
use Rattle.rob_algebra.proofs.Signs.{below_of_sign, above_of_sign, zero_of_sign, sign_ℚ-below, sign_ℚ-above, sign_ℚ-zero, below_zero, above_zero}
use Rattle.rob_algebra.proofs.fraction.fractions_are_compared.Goals as goal

pub returns : goal.returns
returns c = record {
  equality = eq_ℚ-decides;
  order = cmp_ℚ-ranks;
  below = λ x. (λ e. below_of_sign x (below_zero e), sign_ℚ-below x);
  zero = λ x. (zero_of_sign x, sign_ℚ-zero x);
  above = λ x. (λ e. above_of_sign x (above_zero e), sign_ℚ-above x);
}
