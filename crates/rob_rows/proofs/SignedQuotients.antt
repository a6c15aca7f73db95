-- Machine numbers: a whole number's size over a divisor, with its sign put back.
use Rattle.std.proofs.Common.{◌≡◌, ℕ, ◌/◌, ◌^◌, ◌<◌, sym, ap, ◌∙◌, arith, to_z, of_z, w64}
use Rattle.std.proofs.Math.Nat.{mul-div_cancel'}
use Rattle.std.proofs.lemmas.Int.{ints, quot_is, quot_fits, to_z-of_z}
use mir.Val.{SFits}
use Rattle.std.specs.Int.{◌∣◌}
use Rattle.std.specs.Int.RustNames.{int_div}
use lib.IntN.{ℤ, pos, negsuc, ◌*ℤ◌, ◌-ℤ◌, neg_ℤ, nat_abs}
use lib.Signed.{◌<ℤ◌, ◌≤ℤ◌}
use Rattle.rob_algebra.specs.Gcd.{gcd}
use Rattle.rob_algebra.specs.Integer.{mul-neg}

-- a number that is not negative is its divisor times the quotient of the sizes
pub quotient_pos : (v : ℤ) (g n : ℕ) → pos 0 ≤ℤ v → g ∣ nat_abs v → n ≡ nat_abs v / g → n < 2 ^ 62
    → pos g *ℤ to_z w64 n ≡ v
quotient_pos (pos a) g n h d e l =
    let seen : to_z w64 n ≡ pos n = omega (arith, ints) in
    ap (λ t. pos g *ℤ t) (seen ∙ ap pos e) ∙ ap pos (mul-div_cancel' g d)
quotient_pos (negsuc a) g n h d e l = absurd (omega (arith, ints))

-- and a negative one is minus that
pub quotient_neg : (v : ℤ) (g n : ℕ) → v <ℤ pos 0 → g ∣ nat_abs v → n ≡ nat_abs v / g → n < 2 ^ 62
    → pos g *ℤ to_z w64 (of_z w64 (pos 0 -ℤ to_z w64 n)) ≡ v
quotient_neg (pos a) g n h d e l = absurd (omega (arith, ints))
quotient_neg (negsuc a) g n h d e l =
    let seen : to_z w64 (of_z w64 (pos 0 -ℤ to_z w64 n)) ≡ neg_ℤ (pos n) = omega (arith, ints) in
    ap (λ t. pos g *ℤ t) (seen ∙ ap (λ t. neg_ℤ (pos t)) e) ∙ mul-neg (pos g) (pos (nat_abs (negsuc a) / g))
    ∙ ap (λ t. neg_ℤ (pos t)) (mul-div_cancel' g d)

-- a signed quotient by a divisor
pub quotient_signed : (v : ℤ) (g : ℕ) → g ∣ nat_abs v → v ≡ pos g *ℤ int_div v (pos g)
quotient_signed (pos a) g d = sym (ap pos (mul-div_cancel' g d))
quotient_signed (negsuc a) g d =
    sym (mul-neg (pos g) (pos (nat_abs (negsuc a) / g)) ∙ ap (λ t. neg_ℤ (pos t)) (mul-div_cancel' g d))

-- the same, as the code computes it
pub quotient_read : (v : ℤ) (g : ℕ) → SFits w64 v → 0 < g → g < 2 ^ 62 → g ∣ nat_abs v
    → v ≡ pos g *ℤ to_z w64 (of_z w64 (int_div (to_z w64 (of_z w64 v)) (to_z w64 g)))
quotient_read v g f h l d =
    let positive : pos 0 <ℤ pos g = omega (arith, ints) in
    let fits : SFits w64 (pos g) = omega (arith, ints) in
    quotient_signed v g d
    ∙ ap (λ t. pos g *ℤ t) (sym (quot_is w64 v (pos g) f fits (quot_fits w64 v (pos g) f positive)))

-- the greatest common divisor of two sizes, as the code reads them
pub gcd_read : (p q : ℤ) (a b g : ℕ) → SFits w64 p → SFits w64 q → a ≡ nat_abs (to_z w64 (of_z w64 p))
    → b ≡ nat_abs (to_z w64 (of_z w64 q)) → g ≡ gcd a b → g ≡ gcd (nat_abs p) (nat_abs q)
gcd_read p q a b g f h e k l =
    l ∙ ap (λ t. gcd t b) (e ∙ ap nat_abs (to_z-of_z w64 p f))
    ∙ ap (gcd (nat_abs p)) (k ∙ ap nat_abs (to_z-of_z w64 q h))
