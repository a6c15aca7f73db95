-- What the items of an optimal certificate sum to, by column.
use Rattle.std.proofs.Common.{◌≡◌, ◌≢◌, ℕ, zero, suc, ◌+◌, pos, negsuc, [], ◌∷◌, ◌++◌, refl, sym, ◌∙◌, ap, add-one}
use Rattle.rob_algebra.specs.Fraction.{Fraction, of_int, neg_ℚ}
use Rattle.rob_algebra.specs.FractionLaws as Q
use Rattle.rob_algebra.specs.FractionLaws.{ℚ_ring}
use Rattle.rob_algebra.specs.Lists.{zeros, length-zeros}
use Rattle.rob_algebra.specs.Polynomials.{lit, minus}
use Rattle.rob_meaning.proofs.Tables.TauLemmas.{at-end}
use Rattle.rob_meaning.specs.Forms.{plan_vector}
use Rattle.rob_meaning.specs.Places.{0ℚ, 1ℚ, at}
use Rattle.rob_meaning.specs.Proves.{target}
use Rattle.rob_model.specs.View.{sense_of}
use Rattle.rob_model.specs.declared.model.Sense.{Sense}
use Rattle.rob_model.specs.declared.model.Sense.TheVariants.{Minimise, Maximise}

at_last : (a b : Fraction) (n j : ℕ) → j ≡ n + 1 → at (plan_vector a (zeros ℚ_ring n) b) j ≡ b
at_last a b n j e =
    ap (at (plan_vector a (zeros ℚ_ring n) b)) (e ∙ add-one n) ∙ at-end (zeros ℚ_ring n) b n (length-zeros ℚ_ring n)

at_other : (b : Fraction) (n i : ℕ) → i ≢ n → at (zeros ℚ_ring n ++ b ∷ []) i ≡ 0ℚ
at_other b zero zero h = absurd (h refl)
at_other b zero (suc i) h = refl
at_other b (suc n) zero h = refl
at_other b (suc n) (suc i) h = at_other b n i (λ e. h (ap suc e))

at_inner : (a b : Fraction) (n j : ℕ) → j ≢ 0 → j ≢ n + 1 → at (plan_vector a (zeros ℚ_ring n) b) j ≡ 0ℚ
at_inner a b n zero h k = absurd (h refl)
at_inner a b n (suc i) h k = at_other b n i (λ e. k (ap suc e ∙ sym (add-one n)))

pub tau_minimise : (sense : Sense) (n j : ℕ) (v unit negated : Fraction) → sense ≡ Minimise → j ≡ n + 1
    → unit ≡ 1ℚ → negated ≡ neg_ℚ unit
    → negated ≡ at (target (sense_of sense) n v) j
tau_minimise sense n j v unit negated is last one negation =
    negation ∙ ap neg_ℚ one ∙ Q.ring [] (minus (lit (pos 1))) (lit (negsuc 0)) refl
    ∙ sym (at_last v (of_int (negsuc 0)) n j last) ∙ ap (λ s. at (target (sense_of s) n v) j) (sym is)

pub tau_maximise : (sense : Sense) (n j : ℕ) (v unit : Fraction) → sense ≡ Maximise → j ≡ n + 1 → unit ≡ 1ℚ
    → unit ≡ at (target (sense_of sense) n v) j
tau_maximise sense n j v unit is last one =
    one ∙ sym (at_last (neg_ℚ v) 1ℚ n j last) ∙ ap (λ s. at (target (sense_of s) n v) j) (sym is)

pub inner_target : (sense : Sense) (n j : ℕ) (v nothing : Fraction) → j ≢ 0 → j ≢ n + 1 → nothing ≡ 0ℚ
    → nothing ≡ at (target (sense_of sense) n v) j
inner_target Minimise n j v nothing first last none = none ∙ sym (at_inner v (of_int (negsuc 0)) n j first last)
inner_target Maximise n j v nothing first last none = none ∙ sym (at_inner (neg_ℚ v) 1ℚ n j first last)
