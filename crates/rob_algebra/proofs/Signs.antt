-- The sign of a fraction, and where it stands beside 0.
use Rattle.std.specs.Prelude.{◌≡◌, ◌↔◌, zero, suc, ℤ, pos, negsuc, ◌*ℤ◌, ◌<ℤ◌, refl}
use Rattle.std.proofs.Common.{arith, sym, ◌∙◌, ap, subst}
use Rattle.std.proofs.lemmas.Int.{ints}
use Rattle.rob_algebra.specs.Fraction.{Fraction, of_int, sign_of, sign_ℚ, ◌<ℚ◌}
use Rattle.rob_algebra.specs.FractionPairs.{is_self, is_int, same_is}
use Rattle.rob_algebra.specs.PairOrder.{is_lt_in, is_lt_out, is_pos_in, is_pos_out}
use Rattle.rob_algebra.proofs.Parts.{of_int-parts}

-- ---- from the numerator
pub negative_num : (x : Fraction) → x.num <ℤ pos 0 → x <ℚ of_int (pos 0)
negative_num x h = is_lt_in (is_self x) (is_int (pos 0)) (omega (arith, ints))

pub num_negative : (x : Fraction) → x <ℚ of_int (pos 0) → x.num <ℤ pos 0
num_negative x h =
    let p : (x.num *ℤ pos 1) <ℤ (pos 0 *ℤ pos x.den) = is_lt_out (is_self x) (is_int (pos 0)) h in omega (arith, ints)

pub zero_num : (x : Fraction) → x.num ≡ pos 0 → x ≡ of_int (pos 0)
zero_num x h = same_is (is_self x) (is_int (pos 0)) (omega (arith, ints))

pub num_zero : (x : Fraction) → x ≡ of_int (pos 0) → x.num ≡ pos 0
num_zero x h = ap (λ (y : Fraction). y.num) h ∙ (of_int-parts (pos 0)).0

-- ---- from the sign
sign_negative : (z : ℤ) → sign_of z <ℤ pos 0 → z <ℤ pos 0
sign_negative (pos zero) h = h
sign_negative (pos (suc n)) h = absurd (omega (arith, ints))
sign_negative (negsuc n) h = omega (arith, ints)

sign_positive : (z : ℤ) → pos 0 <ℤ sign_of z → pos 0 <ℤ z
sign_positive (pos zero) h = h
sign_positive (pos (suc n)) h = omega (arith, ints)
sign_positive (negsuc n) h = absurd (omega (arith, ints))

sign_zero : (z : ℤ) → sign_of z ≡ pos 0 → z ≡ pos 0
sign_zero (pos zero) h = refl
sign_zero (pos (suc n)) h = absurd (omega (arith, ints))
sign_zero (negsuc n) h = absurd (omega (arith, ints))

-- a sign below 0 is that of a fraction below 0
pub below_of_sign : (x : Fraction) → sign_ℚ x <ℤ pos 0 → x <ℚ of_int (pos 0)
below_of_sign x h = negative_num x (sign_negative x.num h)

pub above_of_sign : (x : Fraction) → pos 0 <ℤ sign_ℚ x → of_int (pos 0) <ℚ x
above_of_sign x h = is_pos_in (is_self x) (sign_positive x.num h)

pub zero_of_sign : (x : Fraction) → sign_ℚ x ≡ pos 0 → x ≡ of_int (pos 0)
zero_of_sign x h = zero_num x (sign_zero x.num h)

-- ---- to the sign
negative_sign : (z : ℤ) → z <ℤ pos 0 → sign_of z ≡ negsuc 0
negative_sign (pos n) h = absurd (omega (arith, ints))
negative_sign (negsuc n) h = refl

positive_sign : (z : ℤ) → pos 0 <ℤ z → sign_of z ≡ pos 1
positive_sign (pos zero) h = absurd (omega (arith, ints))
positive_sign (pos (suc n)) h = refl
positive_sign (negsuc n) h = absurd (omega (arith, ints))

pub sign_ℚ-below : (x : Fraction) → x <ℚ of_int (pos 0) → sign_ℚ x ≡ negsuc 0
sign_ℚ-below x h = negative_sign x.num (num_negative x h)

pub sign_ℚ-above : (x : Fraction) → of_int (pos 0) <ℚ x → sign_ℚ x ≡ pos 1
sign_ℚ-above x h = positive_sign x.num (is_pos_out (is_self x) h)

pub sign_ℚ-zero : (x : Fraction) → x ≡ of_int (pos 0) → sign_ℚ x ≡ pos 0
sign_ℚ-zero x h = ap sign_of (num_zero x h)

-- ---- a number that is the sign, beside 0
pub record IsRanked (sign : ℤ) (x : Fraction) : Type 0 where
  pub below : (sign <ℤ pos 0) ↔ (x <ℚ of_int (pos 0))
  pub zero : (sign ≡ pos 0) ↔ (x ≡ of_int (pos 0))
  pub above : (pos 0 <ℤ sign) ↔ (of_int (pos 0) <ℚ x)

pub sign_ℚ-ranks : (x : Fraction) (sign : ℤ) → sign ≡ sign_ℚ x → IsRanked sign x
sign_ℚ-ranks x sign e = record {
  below = (
    λ h. below_of_sign x (subst (λ z. z <ℤ pos 0) e h),
    λ h. let p : sign ≡ negsuc 0 =
        e ∙ sign_ℚ-below x h in omega (arith, ints),
  );
  zero = (λ h. zero_of_sign x (sym e ∙ h), λ h. e ∙ sign_ℚ-zero x h);
  above = (
    λ h. above_of_sign x (subst (λ z. pos 0 <ℤ z) e h),
    λ h. let p : sign ≡ pos 1 =
        e ∙ sign_ℚ-above x h in omega (arith, ints),
  );
}

-- ---- the two signs that aren't 0, beside 0
pub below_zero : {z : ℤ} → z ≡ negsuc 0 → z <ℤ pos 0
below_zero {z} e = omega (arith, ints)

pub above_zero : {z : ℤ} → z ≡ pos 1 → pos 0 <ℤ z
above_zero {z} e = omega (arith, ints)
