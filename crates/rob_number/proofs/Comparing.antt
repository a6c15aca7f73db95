-- Fractions are compared by their parts.
use Rattle.std.proofs.Common.{◌≡◌, ◌≢◌, ◌<◌, ◌^◌, ℤ, pos, nat_abs, sym, ◌∙◌, ap, of_z, w64, nat_eq, eqb-true, eq-eqb}
use Rattle.std.specs.Bool.{one_answer}
use Rattle.rob_algebra.specs.Fraction.{Fraction, ext}
use Rattle.rob_algebra.specs.FractionOrder.{eq_ℚ, eq_ℚ-decides}
use Rattle.rob_number.proofs.CastLemmas.{bits_decide}

-- where the numerators are equal, the denominators decide
pub eq_then : (x y : Fraction) (a b c d : ℤ) → a ≡ x.num → b ≡ y.num → c ≡ pos x.den → d ≡ pos y.den
    → nat_abs a < 2 ^ 62 → nat_abs b < 2 ^ 62 → nat_abs c < 2 ^ 62 → nat_abs d < 2 ^ 62
    → of_z w64 a ≡ of_z w64 b → nat_eq (of_z w64 c) (of_z w64 d) ≡ eq_ℚ x y
eq_then x y a b c d p q r s ha hb hc hd t =
    one_answer (nat_eq (of_z w64 c) (of_z w64 d)) (eq_ℚ x y) (
      λ e. ext x y (sym p ∙ (bits_decide a b ha hb).0 (eq-eqb (of_z w64 a) (of_z w64 b) t) ∙ q)
          (ap nat_abs (sym r ∙ (bits_decide c d hc hd).0 e ∙ s)),
      λ e. (bits_decide c d hc hd).1 (r ∙ ap (λ (z : Fraction). pos z.den) e ∙ sym s),
    )
    (eq_ℚ-decides x y)

-- where they are not, neither are the fractions
pub eq_else : (x y : Fraction) (a b : ℤ) → a ≡ x.num → b ≡ y.num → nat_abs a < 2 ^ 62 → nat_abs b < 2 ^ 62
    → of_z w64 a ≢ of_z w64 b → nat_eq (of_z w64 a) (of_z w64 b) ≡ eq_ℚ x y
eq_else x y a b p q ha hb t =
    one_answer (nat_eq (of_z w64 a) (of_z w64 b)) (eq_ℚ x y) (
      λ e. absurd (t (eqb-true (of_z w64 a) (of_z w64 b) e)),
      λ e. (bits_decide a b ha hb).1 (p ∙ ap (λ (z : Fraction). z.num) e ∙ sym q),
    )
    (eq_ℚ-decides x y)
