-- Whether a fraction and a whole number sum to at most 0.
use Rattle.std.proofs.Common.{◌≡◌, ◌*◌, refl, sym, ap, ◌∙◌, subst, Bool, true, false, T}
use Rattle.std.specs.Bool.{Decides}
use lib.IntN.{ℤ, pos, ◌+ℤ◌, ◌*ℤ◌}
use lib.Signed.{◌≤ℤ◌, le_z}
use Rattle.rob_algebra.specs.Fraction.{Fraction, of_int, ◌+ℚ◌, ◌≤ℚ◌}
use Rattle.rob_algebra.specs.FractionPairs.{Is, is_self, is_int, is_add}
use Rattle.rob_algebra.specs.PairOrder.{is_le_in, is_le_out}
use Rattle.rob_algebra.specs.Integer.{mul-one, zero-mul}
use Rattle.rob_meaning.specs.Places.{0ℚ}

module _ (x : Fraction) (n v : ℤ) (e : v ≡ x.num +ℤ (n *ℤ pos x.den)) where
  pair : Is (x +ℚ of_int n) ((x.num *ℤ pos 1) +ℤ (n *ℤ pos x.den)) (x.den * 1)
  pair = is_add (is_self x) (is_int n)

  numerator_is : ((x.num *ℤ pos 1) +ℤ (n *ℤ pos x.den)) *ℤ pos 1 ≡ v
  numerator_is = mul-one ((x.num *ℤ pos 1) +ℤ (n *ℤ pos x.den)) ∙ ap (λ z. z +ℤ (n *ℤ pos x.den)) (mul-one x.num)
      ∙ sym e

  pub sum_at_most : v ≤ℤ pos 0 → (x +ℚ of_int n) ≤ℚ 0ℚ
  sum_at_most h =
      is_le_in pair (is_int (pos 0))
      (subst (λ z. (((x.num *ℤ pos 1) +ℤ (n *ℤ pos x.den)) *ℤ pos 1) ≤ℤ z) (sym (zero-mul (pos (x.den * 1))))
      (subst (λ z. z ≤ℤ pos 0) (sym numerator_is) h))

  pub at_most_sum : (x +ℚ of_int n) ≤ℚ 0ℚ → v ≤ℤ pos 0
  at_most_sum h =
      subst (λ z. z ≤ℤ pos 0) numerator_is
      (subst (λ z. (((x.num *ℤ pos 1) +ℤ (n *ℤ pos x.den)) *ℤ pos 1) ≤ℤ z) (zero-mul (pos (x.den * 1)))
      (is_le_out pair (is_int (pos 0)) h))

test_yes : (v w : ℤ) → le_z v w ≡ true → v ≤ℤ w
test_yes v w e = record { le = subst (λ (b : Bool). T b) (sym e) tt }

test_again : (v w : ℤ) → v ≤ℤ w → le_z v w ≡ true
test_again v w h = by (le_z v w) h.le
  where
    by : (b : Bool) → T b → b ≡ true
    by true t = refl
    by false t = absurd t

-- the test of the sum's numerator
pub kept_test : (x : Fraction) (n v seen : ℤ) → v ≡ x.num +ℤ (n *ℤ pos x.den) → seen ≡ v
    → Decides (le_z seen (pos 0)) ((x +ℚ of_int n) ≤ℚ 0ℚ)
kept_test x n v seen e s = (
  λ t. sum_at_most x n v e (subst (λ z. z ≤ℤ pos 0) s (test_yes seen (pos 0) t)),
  λ h. test_again seen (pos 0) (subst (λ z. z ≤ℤ pos 0) (sym s) (at_most_sum x n v e h)),
)
