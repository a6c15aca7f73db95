-- Where the cleared numbers are small, so is the least common denominator, but for a denominator.
use Rattle.std.proofs.Common.{◌≡◌, ◌≢◌, ℕ, zero, suc, ◌*◌, ◌/◌, ◌<◌, ◌≤◌, List, [], ◌∷◌, length, map, refl, ap, ◌∙◌, arith}
use Rattle.std.proofs.lemmas.Int.{ints}
use Rattle.std.proofs.lemmas.Nat.Gcd.{dvd_refl}
use Rattle.std.proofs.Math.Nat.{div-mul_cancel, mul-le-mul_left, mul_comm}
use Rattle.std.specs.Prelude.{nat_abs}
use Prim.Native.Nat.{◌∣◌}
use lib.IntN.{ℤ, pos}
use Rattle.rob_algebra.specs.Fraction.{Fraction}
use Rattle.rob_algebra.specs.FractionPairs.{nat_abs-times}
use Rattle.rob_linear.specs.Vectors as V
use Rattle.rob_meaning.specs.Clearing.{denominator, whole_at}
use Rattle.rob_meaning.specs.Places.{at, Each}
use Rattle.rob_meaning.proofs.Tables.ClearingLemmas.{each_divides}
use Rattle.rob_runs.specs.Cuts.{wholes}

at-whole : (d : ℕ) (qs : List Fraction) (k : ℕ) → k < length qs → V.at (map (whole_at d) qs) k ≡ whole_at d (at qs k)
at-whole d [] k l = absurd (omega arith)
at-whole d (q ∷ qs) zero l = refl
at-whole d (q ∷ qs) (suc k) l = at-whole d qs k (omega arith)

divides_at : (d : ℕ) (qs : List Fraction) → Each (λ (q : Fraction). q.den ∣ d) qs → (k : ℕ)
    → k < length qs → (at qs k).den ∣ d
divides_at d [] h k l = absurd (omega arith)
divides_at d (q ∷ qs) h zero l = h.0
divides_at d (q ∷ qs) h (suc k) l = divides_at d qs h.1 k (omega arith)

-- a number that isn't 0 has a numerator of at least 1
pub denominator_bounded : (limit : ℕ) (qs : List Fraction) (k : ℕ) → k < length qs → (at qs k).num ≢ pos 0
    → nat_abs (V.at (wholes qs) k) ≤ limit → denominator qs ≤ limit * (at qs k).den
denominator_bounded limit qs k l some h =
    let q : Fraction = at qs k in
    let d : ℕ = denominator qs in
    let e : nat_abs (V.at (wholes qs) k) ≡ nat_abs (at qs k).num * (denominator qs / (at qs k).den) =
    ap nat_abs (at-whole (denominator qs) qs k l) ∙ nat_abs-times (at qs k).num (denominator qs / (at qs k).den) in
    let c : (denominator qs / (at qs k).den) * (at qs k).den ≡ denominator qs =
    div-mul_cancel (at qs k).den
    (divides_at (denominator qs) qs (each_divides (denominator qs) qs (dvd_refl (denominator qs))) k l) in
    finish (nat_abs (at qs k).num) (denominator qs / (at qs k).den) (at qs k).den (denominator qs)
    (nonzero (at qs k).num some) c (let f : nat_abs (V.at (wholes qs) k) ≤ limit = h in omega (arith, e))
  where
    nonzero : (z : ℤ) → z ≢ pos 0 → 0 < nat_abs z
    nonzero z h = omega (arith, ints)

    finish : (n x y d : ℕ) → 0 < n → x * y ≡ d → n * x ≤ limit → d ≤ limit * y
    finish n x y d np e h =
        let a : x * 1 ≤ x * n = mul-le-mul_left x np in
        let b : x * n ≡ n * x = mul_comm x n in
        let f : x ≤ limit = omega arith in
        let g : y * x ≤ y * limit = mul-le-mul_left y f in
        let i : y * x ≡ x * y = mul_comm y x in
        let j : y * limit ≡ limit * y = mul_comm y limit in
        omega arith
