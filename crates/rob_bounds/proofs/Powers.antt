-- A power that is made factor by factor, up to a limit.
use Rattle.std.proofs.Common.{◌≡◌, ℕ, zero, suc, ◌*◌, ◌^◌, ◌<◌, ◌≤◌, ap, ◌∙◌, arith, inl, inr, cond, Some, None}
use Rattle.std.proofs.Math.Nat.{pow-zero, pow-succ', one-le-pow, mul-le-mul_left}
use Rattle.std.proofs.lemmas.Bool.{cases_lt}
use Rattle.std.proofs.lemmas.Bool.Decides.{nat_tests}
use Rattle.std.specs.Prelude.{nat_lt}
use Rattle.rob_bounds.specs.Bounds.{row_bound, power_within, bound_within}

product_power : (factor k product : ℕ) → (product * factor) * factor ^ k ≡ product * factor ^ suc k
product_power factor k product =
    let e : factor ^ suc k ≡ factor * factor ^ k = pow-succ' factor k in
    let f : product * factor ^ suc k ≡ product * (factor * factor ^ k) = ap (λ v. product * v) e in omega arith

-- no product on the way is greater than the last one
product_below : (factor k product : ℕ) → 0 < factor → product ≤ product * factor ^ k
product_below factor k product p =
    let o : 1 ≤ factor ^ k = one-le-pow k factor p in
    let l : product * 1 ≤ product * factor ^ k = mul-le-mul_left product o in
    omega arith

pub power_found : (limit factor k product : ℕ) → 0 < factor → product * factor ^ k ≤ limit
    → power_within limit factor k product ≡ Some (product * factor ^ k)
power_found limit factor zero product p l =
    let e : factor ^ 0 ≡ 1 = pow-zero factor in
    let f : product ≡ product * factor ^ 0 =
    (let g : product * factor ^ 0 ≡ product * 1 = ap (λ v. product * v) e in omega arith) in ap Some f
power_found limit factor (suc k) product p l =
    let e : (product * factor) * factor ^ k ≡ product * factor ^ suc k = product_power factor k product in
    let b : product * factor ≤ (product * factor) * factor ^ k = product_below factor k (product * factor) p in
    let n : product * factor ≤ limit = omega arith in
    let c : cond (nat_lt limit (product * factor)) None (power_within limit factor k (product * factor))
    ≡ power_within limit factor k (product * factor) = grind (arith, nat_tests) in
    c ∙ power_found limit factor k (product * factor) p (omega arith) ∙ ap Some e

over_later : (limit factor k product : ℕ) → 0 < factor → product ≤ limit → limit < product * factor ^ k
    → power_within limit factor k product ≡ None
over_later limit factor zero product p h l =
    let e : factor ^ 0 ≡ 1 = pow-zero factor in
    let g : product * factor ^ 0 ≡ product * 1 = ap (λ v. product * v) e in absurd (omega arith)
over_later limit factor (suc k) product p h l =
    elim (cases_lt limit (product * factor)) [
      | inl o ↦ grind (arith, nat_tests)
      | inr o ↦
          let c : cond (nat_lt limit (product * factor)) None (power_within limit factor k (product * factor))
          ≡ power_within limit factor k (product * factor) = grind (arith, nat_tests) in
          c ∙ over_later limit factor k (product * factor) p (omega arith)
          (let e : (product * factor) * factor ^ k ≡ product * factor ^ suc k =
          product_power factor k product in omega arith)
    ]

pub power_over : (limit factor k product : ℕ) → 0 < factor → limit < product * factor ^ suc k
    → power_within limit factor (suc k) product ≡ None
power_over limit factor k product p l =
    elim (cases_lt limit (product * factor)) [
      | inl o ↦ grind (arith, nat_tests)
      | inr o ↦
          let c : cond (nat_lt limit (product * factor)) None (power_within limit factor k (product * factor))
          ≡ power_within limit factor k (product * factor) = grind (arith, nat_tests) in
          c ∙ over_later limit factor k (product * factor) p (omega arith)
          (let e : (product * factor) * factor ^ k ≡ product * factor ^ suc k =
          product_power factor k product in omega arith)
    ]

pub bound_found : (limit m a : ℕ) → 0 < a → row_bound m a ≤ limit → bound_within limit m a ≡ Some (row_bound m a)
bound_found limit m a p l =
    let e : 1 * (suc m * a) ^ suc m ≡ (suc m * a) ^ suc m = omega arith in
    power_found limit (suc m * a) (suc m) 1 (omega arith) (omega arith) ∙ ap Some e

pub bound_over : (limit m a : ℕ) → 0 < a → limit < row_bound m a → bound_within limit m a ≡ None
bound_over limit m a p l = power_over limit (suc m * a) m 1 (omega arith) (omega arith)
