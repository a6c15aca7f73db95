-- Small whole numbers fit, and remainders by 12 tell those by 3 and by 4.
use Rattle.std.proofs.Common.{◌≡◌, ℕ, ◌-◌, ◌%◌, ◌^◌, ◌≤◌, arith, ap, ◌∙◌, to_z, w64, pos}
use Rattle.std.specs.Prelude.{Some}
use Rattle.rob_algebra.specs.Fraction.{of_pair, of_int}
use Rattle.rob_algebra.specs.Width.{kept}
use Rattle.rob_algebra.proofs.WidthLaws.{kept-of_int}
use Rattle.rob_number.proofs.CastLemmas.{natural_seen}
use Rattle.rob_gen.specs.Generated.{whole, periods, centre}

-- `from_parts` keeps a whole number within the limit
pub whole_kept : (limit k : ℕ) → limit ≤ 2 ^ 62 - 1 → 1 ≤ limit → k ≤ limit → kept limit (of_pair (to_z w64 k) 1) ≡
    Some (whole k)
unfolding of_int
whole_kept limit k high one h =
    ap (λ z. kept limit (of_pair z 1)) (natural_seen k (omega arith)) ∙ kept-of_int limit (pos k) one h

-- the periods and the centres of a number are those of its remainder by 12
pub periods_again : (n : ℕ) → periods n ≡ periods (n % 12)
periods_again n = omega arith

pub centre_again : (n period : ℕ) → centre n period ≡ centre (n % 12) period
centre_again n period = omega arith
