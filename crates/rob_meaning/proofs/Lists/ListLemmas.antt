-- Lists of numbers, place by place.
use Rattle.std.proofs.Common.{sym, ap₂, arith}
use Rattle.std.specs.Prelude.{◌≡◌, ℕ, zero, suc, ◌<◌, pos, List, [], ◌∷◌, length, refl}
use Rattle.rob_algebra.specs.Fraction.{Fraction, ◌+ℚ◌, ◌*ℚ◌}
use Rattle.rob_algebra.specs.FractionLaws as Q
use Rattle.rob_algebra.specs.FractionLaws.{ℚ_ring}
use Rattle.rob_algebra.specs.Lists.{scale, plus_all, zeros}
use Rattle.rob_algebra.specs.Polynomials.{lit, ◌:*◌, v0}
use Rattle.rob_meaning.proofs.Lists.AlongLemmas.{suc_same}
use Rattle.rob_meaning.specs.Places.{0ℚ, at, tabulate}

-- lists of one length are the same where their numbers are
pub same_by_places : (xs ys : List Fraction) → length xs ≡ length ys → ((k : ℕ) → k < length xs → at xs k ≡ at ys k) →
    xs ≡ ys
same_by_places [] [] e h = refl
same_by_places [] (y ∷ ys) e h = cc
same_by_places (x ∷ xs) [] e h = cc
same_by_places (x ∷ xs) (y ∷ ys) e h =
    ap₂ (λ (z : Fraction) (zs : List Fraction). z ∷ zs) (h zero (omega arith))
    (same_by_places xs ys (suc_same e) (λ k some. h (suc k) (omega arith)))

pub at-zeros : (n k : ℕ) → at (zeros ℚ_ring n) k ≡ 0ℚ
at-zeros zero k = refl
at-zeros (suc n) zero = refl
at-zeros (suc n) (suc k) = at-zeros n k

pub at-scale : (c : Fraction) (xs : List Fraction) (k : ℕ) → at (scale ℚ_ring c xs) k ≡ c *ℚ at xs k
at-scale c [] k = Q.ring (c ∷ []) (lit (pos 0)) (v0 :* lit (pos 0)) refl
at-scale c (x ∷ xs) zero = refl
at-scale c (x ∷ xs) (suc k) = at-scale c xs k

pub at-plus_all : (xs ys : List Fraction) (k : ℕ) → length xs ≡ length ys →
    at (plus_all ℚ_ring xs ys) k ≡ at xs k +ℚ at ys k
at-plus_all [] [] k e = sym (Q.ℚ-zero-add 0ℚ)
at-plus_all [] (y ∷ ys) k e = cc
at-plus_all (x ∷ xs) [] k e = cc
at-plus_all (x ∷ xs) (y ∷ ys) zero e = refl
at-plus_all (x ∷ xs) (y ∷ ys) (suc k) e = at-plus_all xs ys k (suc_same e)

pub at-tabulate : (n : ℕ) (f : ℕ → Fraction) (k : ℕ) → k < n → at (tabulate n f) k ≡ f k
at-tabulate zero f k h = absurd (omega arith)
at-tabulate (suc n) f zero h = refl
at-tabulate (suc n) f (suc k) h = at-tabulate n (λ i. f (suc i)) k (omega arith)
