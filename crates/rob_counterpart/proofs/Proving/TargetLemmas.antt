-- What the items of a certificate sum to, over a scale.
use Rattle.std.proofs.Common.{◌≡◌, ℕ, suc, ◌<◌, List, [], ◌∷◌, ◌++◌, sym, ap, ap₂, ◌∙◌, subst, arith}
use Rattle.std.proofs.lemmas.Int.{ints}
use lib.IntN.{ℤ, pos, negsuc, ◌*ℤ◌, neg_ℤ}
use lib.Signed.{◌<ℤ◌}
use Rattle.rob_algebra.specs.Fraction.{Fraction, of_int, ◌*ℚ◌, ◌<ℚ◌}
use Rattle.rob_algebra.specs.FractionLaws as Q
use Rattle.rob_algebra.specs.Integer.{ring, *ℤ_comm}
use Rattle.rob_meaning.specs.Places.{0ℚ, tabulate}
use Rattle.rob_meaning.specs.Vectors.{zeros}
use Rattle.rob_meaning.specs.RobustModel.{Sense, minimise, maximise}
use Rattle.rob_meaning.specs.Forms.{plan_vector}
use Rattle.rob_meaning.specs.Proves.{target, Improves}
use Rattle.rob_counterpart.specs.Counterpart.{sign_of}
use Rattle.rob_counterpart.proofs.Pairs.QuotientLemmas.{over, over-mul_right, over-zero, over-self, over-neg, over_pos, over_lt, over_same}
use Rattle.rob_counterpart.proofs.Pairs.TabulateLemmas.{tabulate-same, tabulate-ends, zeros-tabulate}

-- a multiple of the sense, over the multiple
sign-over : (t sign : ℤ) → pos 0 <ℤ t → over (t *ℤ sign) t ≡ of_int sign
sign-over t sign tp = over-mul_right t sign t ∙ ap (λ x. x *ℚ of_int sign) (over-self t tp) ∙ Q.ℚ-one-mul (of_int sign)

-- the constant is the value for minimise, and its negation for maximise
pub target-over : (sense : Sense) (n : ℕ) (total t s b : ℤ) → pos 0 <ℤ t → pos 0 <ℤ s
    → s *ℤ total ≡ neg_ℤ (t *ℤ (sign_of sense *ℤ b))
    → plan_vector (over total t) (zeros n) (over (t *ℤ sign_of sense) t) ≡ target sense n (over b s)
target-over minimise n total t s b tp sp e =
    let f : negsuc 0 *ℤ b ≡ neg_ℤ b = omega (arith, ints) in
    let g : neg_ℤ (t *ℤ neg_ℤ b) ≡ b *ℤ t = simp ring in
    let e2 : total *ℤ s ≡ b *ℤ t = *ℤ_comm total s ∙ e ∙ ap (λ v. neg_ℤ (t *ℤ v)) f ∙ g in
    ap₂ (λ x y. plan_vector x (zeros n) y) (over_same total b t s tp sp e2) (sign-over t (negsuc 0) tp)
target-over maximise n total t s b tp sp e =
    let f : pos 1 *ℤ b ≡ b = omega (arith, ints) in
    let g : neg_ℤ (t *ℤ b) ≡ neg_ℤ b *ℤ t = simp ring in
    let e2 : total *ℤ s ≡ neg_ℤ b *ℤ t = *ℤ_comm total s ∙ e ∙ ap (λ v. neg_ℤ (t *ℤ v)) f ∙ g in
    ap₂ (λ x y. plan_vector x (zeros n) y) (over_same total (neg_ℤ b) t s tp sp e2 ∙ over-neg b s)
    (sign-over t (pos 1) tp)

-- a bound that gets better
pub improves-over : (sense : Sense) (b t : ℤ) → pos 0 <ℤ t → pos 0 <ℤ (sign_of sense *ℤ b) → Improves sense (over b t)
improves-over minimise b t tp h =
    subst (λ x. over b t <ℚ x) (over-zero t) (over_lt b (pos 0) t tp (omega (arith, ints)))
improves-over maximise b t tp h = over_pos b t tp (omega (arith, ints))

-- numbers that are 0 but for the first and the last
pub ends-over : (n : ℕ) (e : ℕ → ℤ) (t tau total : ℤ) → e 0 ≡ total
    → ((j : ℕ) → j < n → e (suc j) ≡ pos 0) → e (suc n) ≡ tau
    → tabulate (suc (suc n)) (λ j. over (e j) t) ≡ plan_vector (over total t) (zeros n) (over tau t)
ends-over n e t tau total first middle last =
    tabulate-ends n (λ j. over (e j) t)
    ∙ ap₂ (λ x (xs : List Fraction). x ∷ xs) (ap (λ v. over v t) first)
    (ap₂ (λ (xs : List Fraction) x. xs ++ x ∷ [])
    (tabulate-same n (λ j. over (e (suc j)) t) (λ j. 0ℚ) (λ j l. ap (λ v. over v t) (middle j l) ∙ over-zero t)
    ∙ sym (zeros-tabulate n))
    (ap (λ v. over v t) last))
