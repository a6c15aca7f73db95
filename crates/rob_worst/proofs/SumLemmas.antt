-- A sum and one product more, as code computes it in 128 bits and holds it against the limit.
use Rattle.std.proofs.Common.{◌≡◌, ℕ, ◌-◌, ◌^◌, ◌<◌, ◌≤◌, ℤ, pos, ◌+ℤ◌, ◌*ℤ◌, nat_abs, ap, ap₂, refl, sym, ◌∙◌, subst, arith, to_z, of_z, w64, SFits}
use Rattle.std.specs.Int.{w128}
use Rattle.rob_number.proofs.CastLemmas.{fits_small, limit_seen, product_value, seen, seen_small, seen_wide}

-- a number of at most 62 bits is read with as few
pub factor_small : (z : ℤ) → nat_abs z ≤ 2 ^ 62 - 1 → nat_abs (to_z w64 (of_z w64 z)) < 2 ^ 62
factor_small z h = seen_small z (omega (arith, h))

pub product_small : (z : ℤ) → nat_abs z < 2 ^ 124 → nat_abs (to_z w128 (of_z w128 z)) < 2 ^ 124
product_small z h = subst (λ x. nat_abs x < 2 ^ 124) (sym (seen_wide z (omega (arith, h)))) h

-- what the sum is
pub sum_value : (n sum p a b : ℤ) → n ≡ to_z w64 (of_z w64 sum) +ℤ to_z w128 (of_z w128 p)
    → p ≡ to_z w64 (of_z w64 a) *ℤ to_z w64 (of_z w64 b) → nat_abs p < 2 ^ 124 → nat_abs sum ≤ 2 ^ 62 - 1
    → nat_abs a ≤ 2 ^ 62 - 1 → nat_abs b ≤ 2 ^ 62 - 1 → n ≡ sum +ℤ (a *ℤ b)
sum_value n sum p a b e f small hs ha hb =
    e ∙ ap₂ ◌+ℤ◌ (seen sum (omega (arith, hs))) (seen_wide p (omega (arith, small))
    ∙ product_value p a b a b f (omega (arith, ha)) (omega (arith, hb)) refl refl)

-- ---- a number's size, held against a limit
module _ (limit : ℕ) (bound z : ℤ) (size : ℕ) (told : bound ≡ pos limit) (high : limit ≤ 2 ^ 62 - 1)
    (small : nat_abs z < 2 ^ 125) (is : size ≡ nat_abs (to_z w128 (of_z w128 z))) where
  limit_is : nat_abs (to_z w64 (of_z w64 bound)) ≡ limit
  limit_is = limit_seen bound limit told high

  size_is : size ≡ nat_abs z
  size_is = is ∙ ap nat_abs (seen_wide z (omega (arith, small)))

  pub over_limit : nat_abs (to_z w64 (of_z w64 bound)) < size → limit < nat_abs z
  over_limit h = omega (arith, h, size_is, limit_is)

  module _ (h : size ≤ nat_abs (to_z w64 (of_z w64 bound))) where
    within_limit : nat_abs z ≤ limit
    within_limit = omega (arith, h, size_is, limit_is)

    few_bits : nat_abs z < 2 ^ 62
    few_bits = omega (arith, within_limit, high)

    pub kept_fits : SFits w64 (to_z w128 (of_z w128 z))
    kept_fits = subst (SFits w64) (sym (seen_wide z (omega (arith, small)))) (fits_small z few_bits)

    kept_seen : to_z w64 (of_z w64 (to_z w128 (of_z w128 z))) ≡ z
    kept_seen = ap (λ x. to_z w64 (of_z w64 x)) (seen_wide z (omega (arith, small))) ∙ seen z few_bits

    -- it is the number, and within the limit
    pub kept_is : (n : ℤ) → z ≡ n
        → (to_z w64 (of_z w64 (to_z w128 (of_z w128 z))) ≡ n)
        × (nat_abs (to_z w64 (of_z w64 (to_z w128 (of_z w128 z)))) ≤ limit)
    kept_is n e = (kept_seen ∙ e, subst (λ x. nat_abs x ≤ limit) (sym kept_seen) within_limit)
