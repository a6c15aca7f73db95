-- A fraction of two whole numbers within the limit is within it.
use Rattle.std.proofs.Common.{◌≡◌, ℕ, zero, suc, ◌-◌, ◌^◌, ◌<◌, ◌≤◌, arith, le_trans, div-le_self, ◌∙◌, to_z, w64}
use Rattle.std.specs.Prelude.{pos, nat_abs, Some}
use Rattle.rob_algebra.specs.Fraction.{of_pair}
use Rattle.rob_algebra.specs.Gcd.{gcd}
use Rattle.rob_algebra.specs.Width.{Fits, kept}
use Rattle.rob_algebra.proofs.WidthLaws.{kept-fits}
use Rattle.rob_number.proofs.CastLemmas.{natural_seen}

-- a fraction's parts in lowest terms are no greater than those that it is made of
pub pair_fits : (limit n d : ℕ) → 0 < d → n ≤ limit → d ≤ limit → Fits limit (of_pair (pos n) d)
unfolding of_pair
pair_fits limit n zero some a b = absurd (omega arith)
pair_fits limit n (suc k) some a b = record {
  num_fits = le_trans (div-le_self n (gcd n (suc k))) a;
  den_fits = le_trans (div-le_self (suc k) (gcd n (suc k))) b;
}

-- so `from_parts` keeps it
pub written_kept : (limit a b : ℕ) → limit ≤ 2 ^ 62 - 1 → a ≤ limit → b ≤ limit → 0 < b
    → kept limit (of_pair (to_z w64 a) (nat_abs (to_z w64 b))) ≡ Some (of_pair (pos a) b)
written_kept limit a b high h k some =
    let p : to_z w64 a ≡ pos a = natural_seen a (omega arith) in
    let q : to_z w64 b ≡ pos b = natural_seen b (omega arith) in
    (λ i. kept limit (of_pair (p i) (nat_abs (q i))))
    ∙ kept-fits limit (of_pair (pos a) b) (pair_fits limit a b some h k)
