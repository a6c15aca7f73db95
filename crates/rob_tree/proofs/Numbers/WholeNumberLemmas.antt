-- A whole number within the limit is an exact number.
use Rattle.std.proofs.Common.{◌≡◌, ℕ, ◌/◌, ◌≤◌, ◌^◌, ◌-◌, arith, ap, to_z, of_z, w64}
use Rattle.std.proofs.Math.Nat.{div-le_self}
use lib.IntN.{ℤ, nat_abs}
use Rattle.rob_algebra.specs.Gcd.{gcd}
use Rattle.rob_algebra.specs.Fraction.{of_pair, nat_abs-over}
use Rattle.rob_algebra.specs.Width.{Fits}
use Rattle.rob_number.proofs.CastLemmas.{seen}

pub whole_fits : (limit : ℕ) (n : ℤ) → nat_abs n ≤ limit → 1 ≤ limit → Fits limit (of_pair n 1)
unfolding of_pair
whole_fits limit n h k = record {
  num_fits = let a : nat_abs n / gcd (nat_abs n) 1 ≤ nat_abs n = div-le_self (nat_abs n) (gcd (nat_abs n) 1) in
      omega (arith, nat_abs-over n (gcd (nat_abs n) 1));
  den_fits = let a : 1 / gcd (nat_abs n) 1 ≤ 1 = div-le_self 1 (gcd (nat_abs n) 1) in omega arith;
}

-- of the number as it was passed
pub whole_seen : (limit : ℕ) (n : ℤ) → limit ≤ 2 ^ 62 - 1 → nat_abs n ≤ limit
    → of_pair (to_z w64 (of_z w64 n)) 1 ≡ of_pair n 1
whole_seen limit n high h = ap (λ a. of_pair a 1) (seen n (omega arith))
