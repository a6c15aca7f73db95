-- Clearing multiplies by a positive number; and lists that are tabulated.
use Rattle.std.specs.Prelude.{◌≡◌, ℕ, zero, suc, ◌*◌, ◌/◌, ◌<◌, pos, List, [], ◌∷◌, ◌++◌, length, map, refl}
use Rattle.std.proofs.Common.{sym, ◌∙◌, ap, ap₂, subst, arith, mul-pos}
use Rattle.std.proofs.lemmas.Nat.Gcd.{dvd_trans, dvd_refl}
use Rattle.std.proofs.Math.Nat.{dvd-mul_right, dvd-mul_left, div-mul_cancel, mul_assoc, mul_comm}
use Prim.Native.Nat.{◌∣◌}
use Rattle.rob_algebra.specs.Fraction.{Fraction, of_int, den_pos, ◌+ℚ◌, ◌*ℚ◌, ◌<ℚ◌}
use Rattle.rob_algebra.specs.FractionPairs.{same_is, is_int, is_mul, is_self, pos_lt}
use Rattle.rob_algebra.specs.FractionLaws as Q
use Rattle.rob_algebra.specs.PairOrder.{is_pos_in}
use Rattle.rob_algebra.specs.FractionLaws.{ℚ_ring}
use Rattle.rob_algebra.specs.Gcd.{gcd, gcd-div_left, gcd-div_right}
use Rattle.rob_algebra.specs.IntRing as Z
use Rattle.rob_algebra.specs.Lists.{dot, scale, mat_vec, dot-scale}
use Rattle.rob_algebra.specs.Polynomials.{lit, ◌:*◌, v0, v1, v2, v3}
use Rattle.rob_meaning.proofs.Lists.AlongLemmas.{suc_same}
use Rattle.rob_meaning.specs.Clearing.{cleared, denominator, entries, fractions, lcm, whole_at}
use Rattle.rob_meaning.specs.Places.{0ℚ, Each, along, tabulate}
pub use Rattle.rob_meaning.proofs.Lists.TabulateLemmas.{length-tabulate}

across : (x y g : ℕ) → (x * g) * y ≡ x * (y * g)
across x y g = mul_assoc x g y ∙ ap (λ n. x * n) (mul_comm g y)

pub dvd_lcm_left : (a b : ℕ) → a ∣ lcm a b
dvd_lcm_left a b =
    subst (λ n. a ∣ n) (whole a b (gcd a b) (a / gcd a b) (b / gcd a b) (gcd-div_left a b) (gcd-div_right a b))
    (dvd-mul_right a (b / gcd a b))
  where
    whole : (a b g x y : ℕ) → x * g ≡ a → y * g ≡ b → a * y ≡ x * b
    whole a b g x y p q = ap (λ n. n * y) (sym p) ∙ across x y g ∙ ap (λ n. x * n) q

pub dvd_lcm_right : (a b : ℕ) → b ∣ lcm a b
dvd_lcm_right a b = dvd-mul_left b (a / gcd a b)

pub lcm_pos : (a b : ℕ) → 0 < a → 0 < b → 0 < lcm a b
lcm_pos a b h k = mul-pos (some (a / gcd a b) (gcd a b) (gcd-div_left a b)) k
  where
    some : (x g : ℕ) → x * g ≡ a → 0 < x
    some zero g e = absurd (omega arith)
    some (suc x) g e = omega arith

pub denominator_pos : (qs : List Fraction) → 0 < denominator qs
denominator_pos [] = omega arith
denominator_pos (q ∷ qs) = lcm_pos q.den (denominator qs) (den_pos q) (denominator_pos qs)

-- a multiple of the common denominator makes each number whole
pub each_divides : (d : ℕ) (qs : List Fraction) → denominator qs ∣ d → Each (λ (q : Fraction). q.den ∣ d) qs
each_divides d [] h = tt
each_divides d (q ∷ qs) h = (
  dvd_trans q.den (dvd_lcm_left q.den (denominator qs)) h,
  each_divides d qs
      (dvd_trans (denominator qs) (dvd_lcm_right q.den (denominator qs)) h),
)

pub multiplier_pos : (d : ℕ) → 0 < d → 0ℚ <ℚ of_int (pos d)
multiplier_pos d h = is_pos_in (is_int (pos d)) (pos_lt d h)

pub whole_at-is : (d : ℕ) (q : Fraction) → q.den ∣ d → of_int (whole_at d q) ≡ of_int (pos d) *ℚ q
whole_at-is d q h =
    same_is (is_int (whole_at d q)) (is_mul (is_int (pos d)) (is_self q))
    (Z.from_one (q.num ∷ pos (d / q.den) ∷ pos q.den ∷ pos d ∷ [])
    (v0 :* v1 :* (lit (pos 1) :* v2)) (v3 :* v0 :* lit (pos 1)) v0 (v1 :* v2) v3 refl (ap pos (div-mul_cancel q.den h)))

pub whole-row : (d : ℕ) (qs : List Fraction) → Each (λ (q : Fraction). q.den ∣ d) qs →
    map of_int (map (whole_at d) qs) ≡ scale ℚ_ring (of_int (pos d)) qs
whole-row d [] h = refl
whole-row d (q ∷ qs) h = ap₂ (λ (y : Fraction) (ys : List Fraction). y ∷ ys) (whole_at-is d q h.0) (whole-row d qs h.1)

each_dvd_left : (d : ℕ) (xs ys : List Fraction) → Each (λ (q : Fraction). q.den ∣ d) (xs ++ ys) →
    Each (λ (q : Fraction). q.den ∣ d) xs
each_dvd_left d [] ys h = tt
each_dvd_left d (x ∷ xs) ys h = (h.0, each_dvd_left d xs ys h.1)

each_dvd_right : (d : ℕ) (xs ys : List Fraction) → Each (λ (q : Fraction). q.den ∣ d) (xs ++ ys) →
    Each (λ (q : Fraction). q.den ∣ d) ys
each_dvd_right d [] ys h = h
each_dvd_right d (x ∷ xs) ys h = each_dvd_right d xs ys h.1

-- a matrix, cleared, times a vector
cleared_by : (d : ℕ) (rows : List (List Fraction)) (z : List Fraction) →
    Each (λ (q : Fraction). q.den ∣ d) (entries rows) →
    mat_vec ℚ_ring (fractions (map (map (whole_at d)) rows)) z ≡ scale ℚ_ring (of_int (pos d)) (mat_vec ℚ_ring rows z)
cleared_by d [] z h = refl
cleared_by d (row ∷ rows) z h =
    ap₂ (λ (y : Fraction) (ys : List Fraction). y ∷ ys)
    (ap (λ (r : List Fraction). dot ℚ_ring r z) (whole-row d row (each_dvd_left d row (entries rows) h))
    ∙ dot-scale ℚ_ring (of_int (pos d)) row z)
    (cleared_by d rows z (each_dvd_right d row (entries rows) h))

pub mat_vec-cleared : (rows : List (List Fraction)) (z : List Fraction) →
    mat_vec ℚ_ring (fractions (cleared rows)) z ≡ scale ℚ_ring (of_int (pos (denominator (entries rows))))
    (mat_vec ℚ_ring rows z)
mat_vec-cleared rows z =
    cleared_by (denominator (entries rows)) rows z
    (each_divides (denominator (entries rows)) (entries rows) (dvd_refl (denominator (entries rows))))

-- ---- lists that are tabulated
pub dot-tabulate : (n : ℕ) (f : ℕ → Fraction) (xs : List Fraction) → length xs ≡ n →
    dot ℚ_ring (tabulate n f) xs ≡ along f xs
dot-tabulate zero f [] e = refl
dot-tabulate zero f (x ∷ xs) e = cc
dot-tabulate (suc n) f [] e = cc
dot-tabulate (suc n) f (x ∷ xs) e = ap (λ z. f zero *ℚ x +ℚ z) (dot-tabulate n (λ k. f (suc k)) xs (suc_same e))

pub dot-append : (a b p t : List Fraction) → length a ≡ length p →
    dot ℚ_ring (a ++ b) (p ++ t) ≡ dot ℚ_ring a p +ℚ dot ℚ_ring b t
dot-append [] b [] t e = sym (Q.ℚ-zero-add (dot ℚ_ring b t))
dot-append [] b (y ∷ ys) t e = cc
dot-append (x ∷ xs) b [] t e = cc
dot-append (x ∷ xs) b (y ∷ ys) t e =
    ap (λ z. x *ℚ y +ℚ z) (dot-append xs b ys t (suc_same e))
    ∙ sym (Q.ℚ-add_assoc (x *ℚ y) (dot ℚ_ring xs ys) (dot ℚ_ring b t))
