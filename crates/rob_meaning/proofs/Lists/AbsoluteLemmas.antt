-- The absolute value of a fraction, and division by a positive one.
use Rattle.std.specs.Prelude.{◌≡◌, ◌≢◌, ℕ, ℤ, pos, negsuc, neg_ℤ, nat_abs, ◌*ℤ◌, ◌≤ℤ◌, [], ◌∷◌, refl, ◌⊎◌}
use Rattle.std.proofs.Common.{sym, ◌∙◌, ap, subst, arith, inl, inr}
use Rattle.std.proofs.lemmas.Int.{ints}
use Rattle.rob_algebra.specs.Fraction.{Fraction, ext, ◌*ℚ◌, ◌/ℚ◌, inv_ℚ, neg_ℚ, ◌≤ℚ◌, ◌<ℚ◌}
use Rattle.rob_algebra.specs.FractionPairs.{same_is, is_self, is_neg, is_int}
use Rattle.rob_algebra.specs.PairOrder.{is_le_in, is_nonneg_in, is_pos_in}
use Rattle.rob_algebra.specs.FractionLaws as Q
use Rattle.rob_algebra.specs.FractionOrderLaws.{le_refl_ℚ, le_total_ℚ, not_lt_ℚ, le_of_lt_ℚ, le_one, le_two, int_nonneg, cancel_le_ℚ, lt_irrefl_ℚ}
use Rattle.rob_algebra.specs.Polynomials.{lit, minus, ◌:*◌, v0, v1}
use Rattle.rob_meaning.specs.Places.{0ℚ, 1ℚ}
use Rattle.rob_meaning.specs.UncertaintySet.{abs_ℚ}

nonneg_from : (x : Fraction) (n : ℕ) → x.num ≡ pos n → 0ℚ ≤ℚ x
nonneg_from x n e = is_nonneg_in (is_self x) (subst (λ (z : ℤ). pos 0 ≤ℤ z) (sym e) (omega (arith, ints)))

nonpos_from : (x : Fraction) (n : ℕ) → x.num ≡ negsuc n → x ≤ℚ 0ℚ
nonpos_from x n e =
    is_le_in (is_self x) (is_int (pos 0)) (subst (λ (z : ℤ). (z *ℤ pos 1) ≤ℤ (pos 0 *ℤ pos x.den)) (sym e)
    (omega (arith, ints)))

-- x is its absolute value, or its negation is
pub abs_is : (x : Fraction) → ((abs_ℚ x ≡ x) × (0ℚ ≤ℚ x)) ⊎ ((abs_ℚ x ≡ neg_ℚ x) × (x ≤ℚ 0ℚ))
abs_is x = by x.num refl
  where
    by : (z : ℤ) → x.num ≡ z → ((abs_ℚ x ≡ x) × (0ℚ ≤ℚ x)) ⊎ ((abs_ℚ x ≡ neg_ℚ x) × (x ≤ℚ 0ℚ))
    by (pos n) e = inl (ext (abs_ℚ x) x (ap (λ (z : ℤ). pos (nat_abs z)) e ∙ sym e) refl, nonneg_from x n e)
    by (negsuc n) e =
        inr (
          same_is (is_self (abs_ℚ x)) (is_neg (is_self x))
              (ap (λ (z : ℤ). z *ℤ pos x.den) (ap (λ (z : ℤ). pos (nat_abs z)) e ∙ ap neg_ℤ (sym e))),
          nonpos_from x n e,
        )

one_nonneg : 0ℚ ≤ℚ 1ℚ
one_nonneg = int_nonneg (pos 1) (omega (arith, ints))

pub le_abs : (x : Fraction) → x ≤ℚ abs_ℚ x
le_abs x = by (abs_is x)
  where
    by : ((abs_ℚ x ≡ x) × (0ℚ ≤ℚ x)) ⊎ ((abs_ℚ x ≡ neg_ℚ x) × (x ≤ℚ 0ℚ)) → x ≤ℚ abs_ℚ x
    by (inl h) = subst (λ z. x ≤ℚ z) (sym h.0) (le_refl_ℚ x)
    by (inr h) =
        subst (λ z. x ≤ℚ z) (sym h.0) (le_two (x ∷ []) v0 (minus v0) (lit (pos 1)) v0 (lit (pos 0)) (lit (pos 1)) v0
        (lit (pos 0)) refl one_nonneg h.1 one_nonneg h.1)

pub neg_le_abs : (x : Fraction) → neg_ℚ x ≤ℚ abs_ℚ x
neg_le_abs x = by (abs_is x)
  where
    by : ((abs_ℚ x ≡ x) × (0ℚ ≤ℚ x)) ⊎ ((abs_ℚ x ≡ neg_ℚ x) × (x ≤ℚ 0ℚ)) → neg_ℚ x ≤ℚ abs_ℚ x
    by (inl h) =
        subst (λ z. neg_ℚ x ≤ℚ z) (sym h.0) (le_two (x ∷ []) (minus v0) v0 (lit (pos 1)) (lit (pos 0)) v0
        (lit (pos 1)) (lit (pos 0)) v0 refl one_nonneg h.1 one_nonneg h.1)
    by (inr h) = subst (λ z. neg_ℚ x ≤ℚ z) (sym h.0) (le_refl_ℚ (neg_ℚ x))

pub abs_least : (x y : Fraction) → x ≤ℚ y → neg_ℚ x ≤ℚ y → abs_ℚ x ≤ℚ y
abs_least x y h k = by (abs_is x)
  where
    by : ((abs_ℚ x ≡ x) × (0ℚ ≤ℚ x)) ⊎ ((abs_ℚ x ≡ neg_ℚ x) × (x ≤ℚ 0ℚ)) → abs_ℚ x ≤ℚ y
    by (inl g) = subst (λ z. z ≤ℚ y) (sym g.0) h
    by (inr g) = subst (λ z. z ≤ℚ y) (sym g.0) k

pub pos_some : (x : Fraction) → 0ℚ <ℚ x → x ≢ 0ℚ
pos_some x h e = lt_irrefl_ℚ 0ℚ (subst (λ z. 0ℚ <ℚ z) e h)

pub inv_pos : (x : Fraction) → 0ℚ <ℚ x → 0ℚ <ℚ inv_ℚ x
inv_pos x h = by (le_total_ℚ (inv_ℚ x) 0ℚ)
  where
    -- 1 = x * inv x would be at most 0
    by : (inv_ℚ x ≤ℚ 0ℚ) ⊎ (0ℚ <ℚ inv_ℚ x) → 0ℚ <ℚ inv_ℚ x
    by (inr k) = k
    by (inl k) = absurd (not_lt_ℚ 1ℚ 0ℚ (subst (λ z. z ≤ℚ 0ℚ) (Q.mul_inv x (pos_some x h)) (below k)) one_pos)
      where
        below : inv_ℚ x ≤ℚ 0ℚ → x *ℚ inv_ℚ x ≤ℚ 0ℚ
        below k = le_one (x ∷ inv_ℚ x ∷ []) (v0 :* v1) (lit (pos 0)) v0 v1 (lit (pos 0)) refl (le_of_lt_ℚ 0ℚ x h) k

        one_pos : 0ℚ <ℚ 1ℚ
        one_pos = is_pos_in (is_int (pos 1)) (omega (arith, ints))

-- x / y is at most z where x is at most y z
pub div_le : (x y z : Fraction) → 0ℚ <ℚ y → x ≤ℚ y *ℚ z → x /ℚ y ≤ℚ z
div_le x y z h k =
    cancel_le_ℚ (x /ℚ y) z y h
    (subst (λ w. w ≤ℚ y *ℚ z) (sym (Q.ℚ-mul_comm y (x /ℚ y) ∙ Q.div_mul x y (pos_some y h))) k)
