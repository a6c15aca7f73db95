-- Expressions over a cell, one level at a time.
use Rattle.std.proofs.Common.{◌≡◌, ℕ, ◌<◌, List, [], ◌∷◌, map, length, refl, ap, sym, ◌∙◌, subst}
use Rattle.std.proofs.lemmas.List.{length-map}
use Rattle.rob_algebra.specs.Fraction.{Fraction}
use Rattle.rob_cells.specs.Building.{signed_over}
use Rattle.rob_meaning.specs.Expressions.{Expression, adaptive_in, factor, parameter, product, sum, term}
use Rattle.rob_meaning.specs.RobustModel.{RobustModel}
use Rattle.rob_meaning.specs.WellFormed.{IsInside}
use Rattle.rob_model.proofs.PartLemmas.{adaptive_in_is, adaptive_is, number_is, parameter_is, product_is, signed_is, sum_is, variable_is}
use Rattle.rob_model.specs.View.{Signed, adaptive_of, expression_of, factors_of, parameter_of, robust, signed_of, terms_of}
use Rattle.rob_model.specs.declared.expr.Expr.{Expr}
use Rattle.rob_model.specs.declared.expr.Expr.TheVariants as expr
use Rattle.rob_model.specs.declared.expr.Term.{Term}
use Rattle.rob_model.specs.declared.model.Model.{Model}
use Rattle.rob_pieces.specs.SplitModel.{factors_over, over_cell, parameter_in, rule_in, terms_over}

-- the numbers in an expression inside a model are those of its lists
module _ {N : Type 0} (value : N → Fraction) (model : Model N) {e : Expr N}
    (inside : IsInside (robust value model) (expression_of value e)) where
  pub parameter_inside : {k : ℕ} → e ≡ expr.Param k → k < length model.params
  parameter_inside {k} is =
      subst (λ n. k < n) (length-map model.params (parameter_of value))
      (subst (IsInside (robust value model)) (ap (expression_of value) is ∙ parameter_is value k) inside)

  pub adaptive_inside : {y : ℕ} → e ≡ expr.Adaptive y → y < length model.adaptives
  adaptive_inside {y} is =
      subst (λ n. y < n) (length-map model.adaptives (adaptive_of value))
      (subst (IsInside (robust value model)) (ap (expression_of value) is ∙ adaptive_is value y) inside)

  pub adaptive_in_inside : {y set : ℕ} → e ≡ expr.AdaptiveIn y set → y < length model.adaptives
  adaptive_in_inside {y} {set} is =
      subst (λ n. y < n) (length-map model.adaptives (adaptive_of value))
      (subst (IsInside (robust value model)) (ap (expression_of value) is ∙ adaptive_in_is value y set) inside).0

module _ (m : RobustModel) (c : ℕ) where
  terms_are : (ss : List Signed) → terms_of (map (signed_over m c) ss) ≡ terms_over m c (terms_of ss)
  terms_are [] = refl
  terms_are (s ∷ ss) = ap (λ ts. term s.0 (over_cell m c s.1) ts) (terms_are ss)

  factors_are : (es : List Expression) → factors_of (map (over_cell m c) es) ≡ factors_over m c (factors_of es)
  factors_are [] = refl
  factors_are (e ∷ es) = ap (λ fs. factor (over_cell m c e) fs) (factors_are es)

  module _ {N : Type 0} (value : N → Fraction) where
    pub sum_over : (over : List (Term N)) {ts us : List (Term N)} {e : Expr N} → e ≡ expr.Sum ts → us ≡ ts
        → map (signed_of value) over ≡ map (signed_over m c) (map (signed_of value) us)
        → expression_of value (expr.Sum over) ≡ over_cell m c (expression_of value e)
    sum_over over {ts} {us} {e} is same made =
        sum_is value over
        ∙ ap (λ ss. sum (terms_of ss)) (made ∙ ap (λ xs. map (signed_over m c) (map (signed_of value) xs)) same)
        ∙ ap sum (terms_are (map (signed_of value) ts))
        ∙ ap (over_cell m c) (sym (ap (expression_of value) is ∙ sum_is value ts))

    pub product_over : (over : List (Expr N)) {fs gs : List (Expr N)} {e : Expr N} → e ≡ expr.Product fs
        → gs ≡ fs → map (expression_of value) over ≡ map (over_cell m c) (map (expression_of value) gs)
        → expression_of value (expr.Product over) ≡ over_cell m c (expression_of value e)
    product_over over {fs} {gs} {e} is same made =
        product_is value over
        ∙ ap (λ es. product (factors_of es))
        (made ∙ ap (λ xs. map (over_cell m c) (map (expression_of value) xs)) same)
        ∙ ap product (factors_are (map (expression_of value) fs))
        ∙ ap (over_cell m c) (sym (ap (expression_of value) is ∙ product_is value fs))

    -- a part of a sum over the cell
    pub part_over : (inner : Expr N) (t : Term N)
        → expression_of value inner ≡ over_cell m c (expression_of value t.inner)
        → signed_of value (record { minus = t.minus; inner = inner }) ≡ signed_over m c (signed_of value t)
    part_over inner t made =
        signed_is value (record { minus = t.minus; inner = inner })
        ∙ ap (λ e. (t.minus, e)) made
        ∙ ap (signed_over m c) (sym (signed_is value t))

-- an expression without parts over the cell
module _ {N : Type 0} (value : N → Fraction) (m : RobustModel) (c : ℕ) {e : Expr N} where
  pub number_over : {x : N} → e ≡ expr.Number x
      → expression_of value (expr.Number x) ≡ over_cell m c (expression_of value e)
  number_over {x} is =
      number_is value x ∙ ap (over_cell m c) (sym (ap (expression_of value) is ∙ number_is value x))

  pub parameter_over : {k k' : ℕ} → e ≡ expr.Param k → k' ≡ parameter_in m c k
      → expression_of value (expr.Param k') ≡ over_cell m c (expression_of value e)
  parameter_over {k} {k'} is made =
      parameter_is value k'
      ∙ ap parameter made
      ∙ ap (over_cell m c) (sym (ap (expression_of value) is ∙ parameter_is value k))

  pub variable_over : {k : ℕ} → e ≡ expr.Var k
      → expression_of value (expr.Var k) ≡ over_cell m c (expression_of value e)
  variable_over {k} is =
      variable_is value k ∙ ap (over_cell m c) (sym (ap (expression_of value) is ∙ variable_is value k))

  pub adaptive_over : {y y' : ℕ} → e ≡ expr.Adaptive y → y' ≡ rule_in m c y
      → expression_of value (expr.AdaptiveIn y' c) ≡ over_cell m c (expression_of value e)
  adaptive_over {y} {y'} is made =
      adaptive_in_is value y' c
      ∙ ap (λ k. adaptive_in k c) made
      ∙ ap (over_cell m c) (sym (ap (expression_of value) is ∙ adaptive_is value y))

  pub adaptive_in_over : {y y' set : ℕ} → e ≡ expr.AdaptiveIn y set → y' ≡ rule_in m c y
      → expression_of value (expr.AdaptiveIn y' c) ≡ over_cell m c (expression_of value e)
  adaptive_in_over {y} {y'} {set} is made =
      adaptive_in_is value y' c
      ∙ ap (λ k. adaptive_in k c) made
      ∙ ap (over_cell m c) (sym (ap (expression_of value) is ∙ adaptive_in_is value y set))
