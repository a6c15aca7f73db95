-- The degrees of the first factors of a product, of the next one and of those behind it.
use Rattle.std.specs.Prelude.{◌≡◌, ℕ, zero, suc, ◌+◌, ◌<◌, ◌≤◌, List, length, ◌⊎◌, refl}
use Rattle.std.proofs.Common.{◌∙◌, ap, arith, get_or, inl, inr}
use Rattle.rob_algebra.specs.Fraction.{Fraction}
use Rattle.rob_meaning.specs.Coefficients.{Table, table, product_table}
use Rattle.rob_meaning.specs.Degrees.{decision_degree, uncertain_degree}
use Rattle.rob_meaning.specs.Expressions.{Expression, product, Factors, no_factors, factor}
use Rattle.rob_meaning.specs.RobustModel.{RobustModel}
use Rattle.rob_meaning.proofs.Tables.TableLemmas.{no_params, no_columns, product_no_params, product_no_columns}
use Rattle.rob_model.specs.View.{expression_of}
use Rattle.rob_model.specs.declared.expr.Expr.{Expr}
use Rattle.rob_model.proofs.PartLemmas.{factors_at}
use Rattle.rob_sets.specs.Subexpressions.{with_factor}
use Rattle.rob_sets.specs.Tables.{AreApart, HasNoParameters, HasNoColumns}
use Rattle.rob_sets.proofs.Expressions.PrefixLemmas.{first_factors, other_factors, first_factors-more}

uncertain-with : (m : RobustModel) (before : Factors) (e : Expression)
    → uncertain_degree m (product (with_factor before e)) ≡ uncertain_degree m (product before) + uncertain_degree m e
uncertain-with m no_factors e = omega arith
uncertain-with m (factor d fs) e = omega (arith, uncertain-with m fs e)

decision-with : (m : RobustModel) (before : Factors) (e : Expression)
    → decision_degree m (product (with_factor before e)) ≡ decision_degree m (product before) + decision_degree m e
decision-with m no_factors e = omega arith
decision-with m (factor d fs) e = omega (arith, decision-with m fs e)

-- a prefix and the next factor have no degree over 1
pub apart : (m : RobustModel) (before : Factors) (e : Expression) (f g : Table)
    → ((k j : ℕ) → f k j ≡ product_table m before k j)
    → ((k j : ℕ) → g k j ≡ table m e k j) → uncertain_degree m (product before) + uncertain_degree m e ≤ 1
    → decision_degree m (product before) + decision_degree m e ≤ 1 → AreApart f g
apart m before e f g hf hg u d =
    record {
      parameters = by_rows (uncertain_degree m (product before)) refl;
      columns = by_columns (decision_degree m (product before)) refl;
    }
  where
    by_rows : (n : ℕ) → uncertain_degree m (product before) ≡ n → HasNoParameters f ⊎ HasNoParameters g
    by_rows zero h = inl (λ k j. hf (suc k) j ∙ product_no_params m before h k j)
    by_rows (suc n) h = inr (λ k j. hg (suc k) j ∙ no_params m e (omega arith) k j)

    by_columns : (n : ℕ) → decision_degree m (product before) ≡ n → HasNoColumns f ⊎ HasNoColumns g
    by_columns zero h = inl (λ k j. hf k (suc j) ∙ product_no_columns m before h k j)
    by_columns (suc n) h = inr (λ k j. hg k (suc j) ∙ no_columns m e (omega arith) k j)

module _ {N : Type 0} (value : N → Fraction) where
  -- the degrees of the first factors, the next one and those behind it
  pub degree_left : (m : RobustModel) (fs : List (Expr N)) (i : ℕ) (f : Expr N) → i < length fs → f ≡ get_or fs i f
      → uncertain_degree m (product (first_factors value fs i))
      + uncertain_degree m (product (other_factors value fs i)) ≤ 1
      → decision_degree m (product (first_factors value fs i))
      + decision_degree m (product (other_factors value fs i)) ≤ 1
      → (uncertain_degree m (product (first_factors value fs i)) + uncertain_degree m (expression_of value f) ≤ 1)
      × (decision_degree m (product (first_factors value fs i)) + decision_degree m (expression_of value f) ≤ 1)
      × (uncertain_degree m (product (first_factors value fs (i + 1)))
      + uncertain_degree m (product (other_factors value fs (i + 1))) ≤ 1)
      × (decision_degree m (product (first_factors value fs (i + 1)))
      + decision_degree m (product (other_factors value fs (i + 1))) ≤ 1)
  degree_left m fs i f h e u d =
      let at = factors_at value fs i f h e in
      let more = first_factors-more value fs i f h e in
      let u_left : uncertain_degree m (product (other_factors value fs i))
      ≡ uncertain_degree m (expression_of value f) + uncertain_degree m (product (other_factors value fs (i + 1))) =
      ap (λ x. uncertain_degree m (product x)) at in
      let d_left : decision_degree m (product (other_factors value fs i))
      ≡ decision_degree m (expression_of value f) + decision_degree m (product (other_factors value fs (i + 1))) =
      ap (λ x. decision_degree m (product x)) at in
      let u_first : uncertain_degree m (product (first_factors value fs (i + 1)))
      ≡ uncertain_degree m (product (first_factors value fs i)) + uncertain_degree m (expression_of value f) =
      ap (λ x. uncertain_degree m (product x)) more
      ∙ uncertain-with m (first_factors value fs i) (expression_of value f) in
      let d_first : decision_degree m (product (first_factors value fs (i + 1)))
      ≡ decision_degree m (product (first_factors value fs i)) + decision_degree m (expression_of value f) =
      ap (λ x. decision_degree m (product x)) more
      ∙ decision-with m (first_factors value fs i) (expression_of value f) in
      (omega arith, omega arith, omega arith, omega arith)
