-- The coefficients of an expression are differences of its values; so values determine them.
use Rattle.std.proofs.Common.{sym, ◌∙◌, ap, ap₂}
use Rattle.std.specs.Prelude.{◌≡◌, ℕ, zero, suc, pos, [], ◌∷◌, refl}
use Rattle.rob_algebra.specs.Fraction.{Fraction, ◌+ℚ◌, ◌-ℚ◌, ◌*ℚ◌}
use Rattle.rob_algebra.specs.FractionLaws as Q
use Rattle.rob_algebra.specs.Polynomials.{lit, ◌:+◌, ◌:-◌, ◌:*◌, v0, v1, v2, v3}
use Rattle.rob_meaning.proofs.Tables.TableLemmas.{value-table}
use Rattle.rob_meaning.specs.Coefficients.{table, unit_list}
use Rattle.rob_meaning.specs.Degrees.{IsLinear}
use Rattle.rob_meaning.specs.Expressions.{Expression}
use Rattle.rob_meaning.specs.Places.{0ℚ, 1ℚ, along}
use Rattle.rob_meaning.specs.RobustModel.{RobustModel}
use Rattle.rob_meaning.specs.Values.{value}

along-unit_list : (k : ℕ) (f : ℕ → Fraction) → along f (unit_list k) ≡ f k
along-unit_list zero f = Q.ring (f 0 ∷ []) (v0 :* lit (pos 1) :+ lit (pos 0)) v0 refl
along-unit_list (suc k) f =
    ap (λ z. f 0 *ℚ 0ℚ +ℚ z) (along-unit_list k (λ i. f (suc i)))
    ∙ Q.ring (f 0 ∷ f (suc k) ∷ []) (v0 :* lit (pos 0) :+ v1) v1 refl

along-one : (f : ℕ → Fraction) → along f (1ℚ ∷ []) ≡ f 0
along-one f = Q.ring (f 0 ∷ []) (v0 :* lit (pos 1) :+ lit (pos 0)) v0 refl

along-two : (k : ℕ) (f : ℕ → Fraction) → along f (1ℚ ∷ unit_list k) ≡ f 0 +ℚ f (suc k)
along-two k f =
    ap (λ z. f 0 *ℚ 1ℚ +ℚ z) (along-unit_list k (λ i. f (suc i)))
    ∙ Q.ring (f 0 ∷ f (suc k) ∷ []) (v0 :* lit (pos 1) :+ v1) (v0 :+ v1) refl

module _ (m : RobustModel) (e : Expression) (linear : IsLinear m e) where
  value_nothing : value m [] [] e ≡ table m e 0 0
  value_nothing =
      sym (value-table m [] [] e linear)
      ∙ along-one (λ k. along (table m e k) (1ℚ ∷ [])) ∙ along-one (table m e 0)

  value_parameter : (k : ℕ) → value m [] (unit_list k) e ≡ table m e 0 0 +ℚ table m e (suc k) 0
  value_parameter k =
      sym (value-table m (unit_list k) [] e linear)
      ∙ along-two k (λ k. along (table m e k) (1ℚ ∷ []))
      ∙ ap₂ ◌+ℚ◌ (along-one (table m e 0)) (along-one (table m e (suc k)))

  value_column : (j : ℕ) → value m (unit_list j) [] e ≡ table m e 0 0 +ℚ table m e 0 (suc j)
  value_column j =
      sym (value-table m [] (unit_list j) e linear)
      ∙ along-one (λ k. along (table m e k) (1ℚ ∷ unit_list j)) ∙ along-two j (table m e 0)

  value_both : (k j : ℕ) → value m (unit_list j) (unit_list k) e ≡
      (table m e 0 0 +ℚ table m e 0 (suc j)) +ℚ (table m e (suc k) 0 +ℚ table m e (suc k) (suc j))
  value_both k j =
      sym (value-table m (unit_list k) (unit_list j) e linear)
      ∙ along-two k (λ k. along (table m e k) (1ℚ ∷ unit_list j))
      ∙ ap₂ ◌+ℚ◌ (along-two j (table m e 0)) (along-two j (table m e (suc k)))

  -- ---- the coefficients
  pub entry_constant : table m e 0 0 ≡ value m [] [] e
  entry_constant = sym value_nothing

  pub entry_parameter : (k : ℕ) → table m e (suc k) 0 ≡ value m [] (unit_list k) e -ℚ value m [] [] e
  entry_parameter k =
      Q.ring (table m e 0 0 ∷ table m e (suc k) 0 ∷ []) v1 (v0 :+ v1 :- v0) refl
      ∙ sym (ap₂ ◌-ℚ◌ (value_parameter k) value_nothing)

  pub entry_column : (j : ℕ) → table m e 0 (suc j) ≡ value m (unit_list j) [] e -ℚ value m [] [] e
  entry_column j =
      Q.ring (table m e 0 0 ∷ table m e 0 (suc j) ∷ []) v1 (v0 :+ v1 :- v0) refl
      ∙ sym (ap₂ ◌-ℚ◌ (value_column j) value_nothing)

  pub entry_both : (k j : ℕ) → table m e (suc k) (suc j) ≡
      (value m (unit_list j) (unit_list k) e -ℚ value m (unit_list j) [] e)
      -ℚ (value m [] (unit_list k) e -ℚ value m [] [] e)
  entry_both k j =
      Q.ring (table m e 0 0 ∷ table m e 0 (suc j) ∷ table m e (suc k) 0 ∷ table m e (suc k) (suc j) ∷ [])
      v3 (((v0 :+ v1) :+ (v2 :+ v3) :- (v0 :+ v1)) :- (v0 :+ v2 :- v0)) refl
      ∙ sym (ap₂ ◌-ℚ◌ (ap₂ ◌-ℚ◌ (value_both k j) (value_column j)) (ap₂ ◌-ℚ◌ (value_parameter k) value_nothing))
