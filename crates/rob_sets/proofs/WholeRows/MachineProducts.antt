-- The product of two numbers of at most 62 bits, as code computes it in 128, and a number that is held against a limit.
use Rattle.std.proofs.Common.{◌≡◌, ℕ, ◌*◌, ◌-◌, ◌^◌, ◌<◌, ◌≤◌, ℤ, pos, ◌*ℤ◌, nat_abs, ap, ap₂, sym, ◌∙◌, subst, arith, to_z, of_z, w64, SFits}
use Rattle.std.specs.Int.{w128}
use Rattle.std.proofs.Math.Nat.{mul-le-mul}
use Rattle.std.proofs.lemmas.Int.{ints, unsigned_abs-mul}
use Rattle.rob_number.proofs.CastLemmas.{fits_small, limit_seen, seen_down, seen_up, seen_wide}

fits_wide : (z : ℤ) → nat_abs z < 2 ^ 124 → SFits w128 z
fits_wide z h = omega (arith, ints)

module _ (a b : ℤ) (f : SFits w64 a) (g : SFits w64 b) where
  -- the factors in 128 bits
  abbrev times : ℤ
  times = to_z w128 (of_z w128 (to_z w64 (of_z w64 a))) *ℤ to_z w128 (of_z w128 (to_z w64 (of_z w64 b)))

  times_is : times ≡ a *ℤ b
  times_is = ap₂ ◌*ℤ◌ (seen_up a f) (seen_up b g)

  module _ (left : nat_abs a < 2 ^ 62) (right : nat_abs b < 2 ^ 62) where
    product_small : nat_abs (a *ℤ b) < 2 ^ 124
    product_small =
        let p : nat_abs a ≤ 2 ^ 62 - 1 = omega (arith, left) in
        let q : nat_abs b ≤ 2 ^ 62 - 1 = omega (arith, right) in
        let both : nat_abs a * nat_abs b ≤ (2 ^ 62 - 1) * (2 ^ 62 - 1) = mul-le-mul p q in
        omega (arith, both, unsigned_abs-mul a b)

    pub product_fits : SFits w128 times
    product_fits = subst (SFits w128) (sym times_is) (fits_wide (a *ℤ b) product_small)

    pub product_seen : to_z w128 (of_z w128 times) ≡ a *ℤ b
    product_seen =
        ap (λ z. to_z w128 (of_z w128 z)) times_is ∙ seen_wide (a *ℤ b) (omega (arith, product_small))

    pub product_size : nat_abs (to_z w128 (of_z w128 times)) < 2 ^ 124
    product_size = subst (λ z. nat_abs z < 2 ^ 124) (sym product_seen) product_small

-- ---- a number's size, held against a limit
module _ (limit : ℕ) (bound z : ℤ) (size : ℕ) (told : bound ≡ pos limit) (high : limit ≤ 2 ^ 62 - 1)
    (small : nat_abs z < 2 ^ 124) (is : size ≡ nat_abs (to_z w128 (of_z w128 z))) where
  seen : to_z w128 (of_z w128 z) ≡ z
  seen = seen_wide z (omega (arith, small))

  limit_is : nat_abs (to_z w64 (of_z w64 bound)) ≡ limit
  limit_is = limit_seen bound limit told high

  size_is : size ≡ nat_abs z
  size_is = is ∙ ap nat_abs seen

  pub over_limit : nat_abs (to_z w64 (of_z w64 bound)) < size → limit < nat_abs z
  over_limit h = omega (arith, h, size_is, limit_is)

  module _ (h : size ≤ nat_abs (to_z w64 (of_z w64 bound))) where
    pub within_limit : nat_abs z ≤ limit
    within_limit = omega (arith, h, size_is, limit_is)

    small_enough : nat_abs z < 2 ^ 62
    small_enough = omega (arith, within_limit, high)

    pub kept_fits : SFits w64 (to_z w128 (of_z w128 z))
    kept_fits = subst (SFits w64) (sym seen) (fits_small z small_enough)

    pub kept_seen : to_z w64 (of_z w64 (to_z w128 (of_z w128 z))) ≡ z
    kept_seen = seen_down z (fits_wide z small) small_enough
