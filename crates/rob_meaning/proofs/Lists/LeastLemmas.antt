-- The common denominator of a list is the least number that makes each of them whole.
use Rattle.std.specs.Prelude.{◌≡◌, ℕ, ◌*◌, ◌/◌, ◌<◌, ◌≤◌, pos, nat_abs, ◌*ℤ◌, List, [], ◌∷◌, refl}
use Rattle.std.proofs.Common.{sym, ◌∙◌, ap, subst}
use Rattle.std.proofs.lemmas.Nat.Gcd.{dvd_refl, le_of_dvd}
use Rattle.std.proofs.Math.Nat.{dvd-mul_left, div-mul_cancel, mul_assoc, mul_comm, one-dvd, mul-dvd-mul_left, mul-div_cancel}
use Prim.Native.Nat.{◌∣◌}
use Rattle.rob_algebra.specs.Fraction.{Fraction, coprime}
use Rattle.rob_algebra.specs.FractionPairs.{Is, is_int, is_mul, is_self, is_same, nat_abs-times}
use Rattle.rob_algebra.specs.Gcd.{gcd, gauss, gcd_comm, gcd_pos, gcd-div_left, gcd-div_right, gcd-reduced}
use Rattle.rob_algebra.specs.IntRing as Z
use Rattle.rob_algebra.specs.Polynomials.{lit, ◌:*◌, v0, v1, v2, v3}
use Rattle.rob_meaning.proofs.Tables.ClearingLemmas.{denominator_pos, each_divides, whole_at-is}
use Rattle.rob_meaning.specs.Clearing.{MakesWhole, denominator, lcm, whole_at}
use Rattle.rob_meaning.specs.Places.{Each}

cancelled : (x y g : ℕ) → 0 < g → x * g ≡ y * g → x ≡ y
cancelled x y g some e = sym (mul-div_cancel x some) ∙ ap (λ n. n / g) e ∙ mul-div_cancel y some

-- a common multiple is a multiple of the least
lcm_divides : (a b n : ℕ) → 0 < b → a ∣ n → b ∣ n → lcm a b ∣ n
lcm_divides a b n some h k =
    subst (λ y. (a / gcd a b) * b ∣ y) (mul_comm b (n / b) ∙ div-mul_cancel b k)
    (subst (λ y. y ∣ b * (n / b)) (mul_comm b (a / gcd a b))
    (mul-dvd-mul_left (a / gcd a b) b
    (gauss (b / gcd a b) (a / gcd a b) (n / b) (gcd_comm (b / gcd a b) (a / gcd a b) ∙ gcd-reduced a b some)
    (subst (λ y. (a / gcd a b) ∣ y) (both ∙ mul_comm (n / b) (b / gcd a b)) (dvd-mul_left (a / gcd a b) (n / a))))))
  where
    same : (n / a) * (a / gcd a b) * gcd a b ≡ (n / b) * (b / gcd a b) * gcd a b
    same =
        mul_assoc (n / a) (a / gcd a b) (gcd a b) ∙ ap (λ y. (n / a) * y) (gcd-div_left a b) ∙ div-mul_cancel a h
        ∙ sym (mul_assoc (n / b) (b / gcd a b) (gcd a b) ∙ ap (λ y. (n / b) * y) (gcd-div_right a b)
        ∙ div-mul_cancel b k)

    both : (n / a) * (a / gcd a b) ≡ (n / b) * (b / gcd a b)
    both = cancelled ((n / a) * (a / gcd a b)) ((n / b) * (b / gcd a b)) (gcd a b) (gcd_pos a b some) same

-- where d q is whole, the denominator of q divides d
den_divides : (d : ℕ) (q : Fraction) → MakesWhole d q → q.den ∣ d
den_divides d q h =
    gauss (nat_abs q.num) q.den d (coprime q)
    (subst (λ n. q.den ∣ n) crossed (dvd-mul_left q.den (nat_abs h.0)))
  where
    whole : (q.num *ℤ pos d) ≡ (h.0 *ℤ pos q.den)
    whole =
        Z.from_one (q.num ∷ pos d ∷ pos q.den ∷ h.0 ∷ []) (v0 :* v1) (v3 :* v2) (lit (pos 1)) (v1 :* v0 :* lit (pos 1))
        (v3 :* (lit (pos 1) :* v2)) refl
        (is_same (is_mul (is_int (pos d)) (is_self q)) (subst (λ y. Is y h.0 1) (sym h.1) (is_int h.0)))

    crossed : nat_abs h.0 * q.den ≡ nat_abs q.num * d
    crossed = sym (nat_abs-times h.0 q.den) ∙ ap nat_abs (sym whole) ∙ nat_abs-times q.num d

denominator_divides : (qs : List Fraction) (d : ℕ) → Each (MakesWhole d) qs → denominator qs ∣ d
denominator_divides [] d h = one-dvd d
denominator_divides (q ∷ qs) d h =
    lcm_divides q.den (denominator qs) d (denominator_pos qs) (den_divides d q h.0) (denominator_divides qs d h.1)

pub denominator_least : (qs : List Fraction) (d : ℕ) → 0 < d → Each (MakesWhole d) qs → denominator qs ≤ d
denominator_least qs d some h = le_of_dvd some (denominator_divides qs d h)

whole_by : (d : ℕ) (qs : List Fraction) → Each (λ (q : Fraction). q.den ∣ d) qs → Each (MakesWhole d) qs
whole_by d [] h = tt
whole_by d (q ∷ qs) h = ((whole_at d q, sym (whole_at-is d q h.0)), whole_by d qs h.1)

pub whole_by_denominator : (qs : List Fraction) → (0 < denominator qs) × Each (MakesWhole (denominator qs)) qs
whole_by_denominator qs =
    (denominator_pos qs, whole_by (denominator qs) qs (each_divides (denominator qs) qs (dvd_refl (denominator qs))))
