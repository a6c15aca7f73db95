-- A fraction of two numbers within the limit is within it.
use Rattle.std.proofs.Common.{◌≡◌, ℕ, zero, suc, ◌/◌, ◌<◌, ◌≤◌, ◌^◌, ◌-◌, arith, ap, ap₂, to_z, of_z, w64}
use Rattle.std.proofs.Math.Nat.{div-le_self}
use lib.IntN.{ℤ, pos, nat_abs}
use Rattle.rob_algebra.specs.Gcd.{gcd}
use Rattle.rob_algebra.specs.Fraction.{of_pair, nat_abs-over}
use Rattle.rob_algebra.specs.Width.{Fits}
use Rattle.rob_number.proofs.CastLemmas.{seen_within}

pub of_pair_fits : (limit : ℕ) (n : ℤ) (d : ℕ) → 0 < d → nat_abs n ≤ limit → d ≤ limit → Fits limit (of_pair n d)
unfolding of_pair
of_pair_fits limit n zero p h k = absurd (omega arith)
of_pair_fits limit n (suc d) p h k = record {
  num_fits =
      let a : nat_abs n / gcd (nat_abs n) (suc d) ≤ nat_abs n = div-le_self (nat_abs n) (gcd (nat_abs n) (suc d)) in
      omega (arith, nat_abs-over n (gcd (nat_abs n) (suc d)));
  den_fits =
      let a : suc d / gcd (nat_abs n) (suc d) ≤ suc d = div-le_self (suc d) (gcd (nat_abs n) (suc d)) in omega arith;
}

-- of the numbers as they were passed
pub of_pair_seen : (limit : ℕ) (n d : ℤ) → limit ≤ 2 ^ 62 - 1 → nat_abs n ≤ limit → nat_abs d ≤ limit
    → of_pair (to_z w64 (of_z w64 n)) (nat_abs (to_z w64 (of_z w64 d))) ≡ of_pair n (nat_abs d)
of_pair_seen limit n d high h k =
    ap₂ (λ a b. of_pair a (nat_abs b)) (seen_within limit n high h) (seen_within limit d high k)

-- 0 and 1 fit
pub unit_fits : (limit : ℕ) (n d : ℤ) → 1 ≤ limit → nat_abs n ≤ 1 → d ≡ pos 1 → Fits limit (of_pair n (nat_abs d))
unit_fits limit n d one small e =
    let s : nat_abs d ≡ 1 = ap nat_abs e in
    of_pair_fits limit n (nat_abs d) (omega arith) (omega arith) (omega arith)
