-- Floors and ceilings, and how a range splits at a number that isn't whole.
use Rattle.std.specs.Prelude.{◌≡◌, ℕ, zero, suc, ◌+◌, ◌*◌, ◌/◌, ◌<◌, ◌≤◌, ℤ, pos, negsuc, neg_ℤ, ◌+ℤ◌, ◌*ℤ◌, ◌≤ℤ◌, ◌<ℤ◌, refl, ◌↔◌}
use Rattle.std.proofs.Common.{arith, sym, ◌∙◌, ap, subst, suc-mul}
use Rattle.std.proofs.Math.Nat.{div-mul-le_self, lt-div-mul-add}
use Rattle.std.proofs.lemmas.Int.{ints}
use Rattle.rob_algebra.specs.Fraction.{Fraction, of_int, den_pos, ◌≤ℚ◌, ◌<ℚ◌}
use Rattle.rob_algebra.specs.FractionPairs.{is_int, is_self, pos_lt, same_is}
use Rattle.rob_algebra.specs.PairOrder.{is_le_in, is_le_out, is_lt_in}
use Rattle.rob_algebra.specs.FractionOrderLaws as Q
use Rattle.rob_algebra.specs.Integer as Z
use Rattle.rob_algebra.specs.IntegerOrder.{le_antisym, le_trans_z, mul_mono, le_of_lt_z, cancel_lt}
use Rattle.rob_algebra.proofs.Parts.{of_int-parts}
use Rattle.rob_reach.specs.WholeNumbers.{IsWhole, rounded_down, floor, ceiling}
use Rattle.rob_algebra.proofs.WholeNumbers.{of_int_le, le_of_int}

-- ---- rounding down
below_minus : (m n : ℕ) → n < m → neg_ℤ (pos m) ≤ℤ negsuc n
below_minus zero n h = absurd (omega arith)
below_minus (suc m) n h = omega (arith, ints)

over_minus : (m n : ℕ) → m ≤ n → negsuc n <ℤ neg_ℤ (pos m)
over_minus zero n h = omega (arith, ints)
over_minus (suc m) n h = omega (arith, ints)

times_more : (q d p : ℕ) → q * d ≡ p → suc q * d ≡ p + d
times_more q d p e = omega (arith, suc-mul q d)

pub rounded_low : (n : ℤ) (d : ℕ) → 0 < d → (rounded_down n d *ℤ pos d) ≤ℤ n
rounded_low (pos n) d h = below n (n / d * d) (div-mul-le_self n d)
  where
    below : (n p : ℕ) → p ≤ n → pos p ≤ℤ pos n
    below n p h = omega (arith, ints)
rounded_low (negsuc n) d h =
    below_minus (suc (n / d) * d) n
    (subst (λ k. n < k) (sym (times_more (n / d) d (n / d * d) refl)) (lt-div-mul-add h))

pub rounded_high : (n : ℤ) (d : ℕ) → 0 < d → n <ℤ ((rounded_down n d +ℤ pos 1) *ℤ pos d)
rounded_high (pos n) d h =
    subst (λ z. pos n <ℤ z) (one_more (n / d) d) (above n ((n / d) * d + d) (lt-div-mul-add h))
  where
    above : (n p : ℕ) → n < p → pos n <ℤ pos p
    above n p h = omega (arith, ints)

    one_more : (q d : ℕ) → pos (q * d + d) ≡ (pos q +ℤ pos 1) *ℤ pos d
    one_more q d = sym (Z.add-mul (pos q) (pos 1) (pos d) ∙ ap (λ z. pos (q * d) +ℤ z) (Z.one-mul (pos d)))
rounded_high (negsuc n) d h =
    subst (λ z. negsuc n <ℤ z) (one_more (n / d) d) (over_minus (n / d * d) n (div-mul-le_self n d))
  where
    one_more : (q d : ℕ) → neg_ℤ (pos (q * d)) ≡ (negsuc q +ℤ pos 1) *ℤ pos d
    one_more zero d = none (0 * d) (omega arith)
      where
        none : (p : ℕ) → p ≡ 0 → neg_ℤ (pos p) ≡ pos p
        none zero e = refl
        none (suc p) e = absurd (omega arith)
    one_more (suc q) d = ap (λ z. z *ℤ pos d) (up q)
      where
        up : (q : ℕ) → negsuc q ≡ negsuc (suc q) +ℤ pos 1
        up q = omega (arith, ints)

-- ---- floors
-- a whole number is at most the floor exactly where it is at most the number
pub floor_greatest : (z : ℤ) (x : Fraction) → of_int z ≤ℚ x → z ≤ℤ floor x
floor_greatest z x h =
    below_next z (floor x)
    (cancel_lt z (floor x +ℤ pos 1) (pos x.den) (le_of_lt_z (pos 0) (pos x.den) (pos_lt x.den (den_pos x)))
    (between (z *ℤ pos x.den) x.num ((floor x +ℤ pos 1) *ℤ pos x.den)
    (subst (λ w. (z *ℤ pos x.den) ≤ℤ w) (Z.mul-one x.num) (is_le_out (is_int z) (is_self x) h))
    (rounded_high x.num x.den (den_pos x))))
  where
    below_next : (a b : ℤ) → a <ℤ (b +ℤ pos 1) → a ≤ℤ b
    below_next a b h = omega (arith, ints)

    between : (a b c : ℤ) → a ≤ℤ b → b <ℤ c → a <ℤ c
    between a b c h k = omega (arith, ints)

pub at_most_floor : (z : ℤ) (x : Fraction) → z ≤ℤ floor x → of_int z ≤ℚ x
at_most_floor z x h =
    is_le_in (is_int z) (is_self x)
    (subst (λ w. (z *ℤ pos x.den) ≤ℤ w) (sym (Z.mul-one x.num))
    (le_trans_z (z *ℤ pos x.den) (floor x *ℤ pos x.den) x.num
    (mul_mono z (floor x) (pos x.den) h (le_of_lt_z (pos 0) (pos x.den) (pos_lt x.den (den_pos x))))
    (rounded_low x.num x.den (den_pos x))))

pub below_floor_next : (x : Fraction) → x <ℚ of_int (floor x +ℤ pos 1)
below_floor_next x =
    is_lt_in (is_self x) (is_int (floor x +ℤ pos 1))
    (subst (λ w. w <ℤ ((floor x +ℤ pos 1) *ℤ pos x.den)) (sym (Z.mul-one x.num)) (rounded_high x.num x.den (den_pos x)))

-- ---- ceilings
pub at_most_ceiling : (x : Fraction) → x ≤ℚ of_int (ceiling x)
at_most_ceiling x =
    is_le_in (is_self x) (is_int (ceiling x))
    (negated x.num (rounded_down (neg_ℤ x.num) x.den) (pos x.den) (rounded_low (neg_ℤ x.num) x.den (den_pos x)))
  where
    negated : (n f d : ℤ) → (f *ℤ d) ≤ℤ neg_ℤ n → (n *ℤ pos 1) ≤ℤ (neg_ℤ f *ℤ d)
    negated n f d h = rw (Z.neg-mul, Z.mul-one) (omega (arith, ints))

-- the ceiling is at most each whole number that the number is at most
pub ceiling_least : (z : ℤ) (x : Fraction) → x ≤ℚ of_int z → ceiling x ≤ℤ z
ceiling_least z x h =
    negated z (rounded_down (neg_ℤ x.num) x.den)
    (cancel_lt (neg_ℤ z) (rounded_down (neg_ℤ x.num) x.den +ℤ pos 1) (pos x.den)
    (le_of_lt_z (pos 0) (pos x.den) (pos_lt x.den (den_pos x)))
    (below x.num z (pos x.den) ((rounded_down (neg_ℤ x.num) x.den +ℤ pos 1) *ℤ pos x.den)
    (is_le_out (is_self x) (is_int z) h) (rounded_high (neg_ℤ x.num) x.den (den_pos x))))
  where
    negated : (z f : ℤ) → neg_ℤ z <ℤ (f +ℤ pos 1) → neg_ℤ f ≤ℤ z
    negated z f h = omega (arith, ints)

    below : (n z d p : ℤ) → (n *ℤ pos 1) ≤ℤ (z *ℤ d) → neg_ℤ n <ℤ p → (neg_ℤ z *ℤ d) <ℤ p
    below n z d p h k =
        let g : n ≤ℤ (z *ℤ d) = subst (λ w. w ≤ℤ (z *ℤ d)) (Z.mul-one n) h in
        rw Z.neg-mul (omega (arith, ints))

-- ---- whole numbers
pub floor-int : (z : ℤ) → floor (of_int z) ≡ z
floor-int z =
    le_antisym (floor (of_int z)) z
    (le_of_int (floor (of_int z)) z (at_most_floor (floor (of_int z)) (of_int z) (le_self (floor (of_int z)))))
    (floor_greatest z (of_int z) (Q.le_refl_ℚ (of_int z)))
  where
    le_self : (a : ℤ) → a ≤ℤ a
    le_self a = omega (arith, ints)

pub ceiling-int : (z : ℤ) → ceiling (of_int z) ≡ z
ceiling-int z =
    le_antisym (ceiling (of_int z)) z (ceiling_least z (of_int z) (Q.le_refl_ℚ (of_int z)))
    (le_of_int z (ceiling (of_int z)) (at_most_ceiling (of_int z)))

-- a number with denominator 1 is its numerator
pub whole_is : (x : Fraction) → IsWhole x → x ≡ of_int x.num
whole_is x h = same_is (is_self x) (is_int x.num) (ap (λ d. x.num *ℤ pos d) (sym h))

-- ---- as laws
pub floor_law : (z : ℤ) (x : Fraction) → (z ≤ℤ floor x) ↔ (of_int z ≤ℚ x)
floor_law z x = (at_most_floor z x, floor_greatest z x)

pub ceiling_law : (z : ℤ) (x : Fraction) → (ceiling x ≤ℤ z) ↔ (x ≤ℚ of_int z)
ceiling_law z x = (
  λ h. Q.le_trans_ℚ x (of_int (ceiling x)) (of_int z) (at_most_ceiling x) (of_int_le (ceiling x) z h),
  ceiling_least z x,
)

pub whole_law : (x : Fraction) → IsWhole x ↔ ((z : ℤ) × (x ≡ of_int z))
whole_law x = (λ h. (x.num, whole_is x h), λ h. subst IsWhole (sym h.1) (of_int-parts h.0).1)
