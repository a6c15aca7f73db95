-- The floor of a number that isn't whole.
use Rattle.std.proofs.Common.{◌≡◌, ◌≢◌, ℕ, ◌*◌, ◌/◌, ◌<◌, ◌≤◌, zero, suc, refl, subst, arith}
use Rattle.std.proofs.Math.Nat.{div-mul-le_self, mul-le-mul_left}
use Rattle.std.specs.Prelude.{ℤ, pos, negsuc, nat_abs}
use Rattle.rob_algebra.specs.Fraction.{Fraction, den_pos}
use Rattle.rob_algebra.specs.Width.{Fits}
use Rattle.rob_reach.specs.WholeNumbers.{IsWhole, floor, rounded_down}

-- the floor of a number that isn't whole is below the limit
pub floor_below : (limit : ℕ) (x : Fraction) → 1 ≤ limit → Fits limit x → (IsWhole x → ⊥) → floor x ≢ pos limit
floor_below limit x low fits broken = by x.num x.den (den_pos x) fits.num_fits broken
  where
    by : (n : ℤ) (d : ℕ) → 0 < d → nat_abs n ≤ limit → (d ≡ 1 → ⊥) → rounded_down n d ≢ pos limit
    by (negsuc n) d p h b e = cc
    by (pos n) zero p h b e = absurd (omega arith)
    by (pos n) (suc zero) p h b e = b refl
    by (pos n) (suc (suc d)) p h b e =
        let q : n / suc (suc d) ≡ limit = cc in
        let most : (n / suc (suc d)) * suc (suc d) ≤ n = div-mul-le_self n (suc (suc d)) in
        let twice : limit * suc (suc d) ≤ n = subst (λ k. k * suc (suc d) ≤ n) q most in
        let two : 2 ≤ suc (suc d) = omega arith in
        let more : limit * 2 ≤ limit * suc (suc d) = mul-le-mul_left limit two in
        let small : n ≤ limit = h in
        omega arith
