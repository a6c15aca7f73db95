-- What an expression of the program is, and the tables of the simplest.
use Rattle.std.specs.Prelude.{◌≡◌, ℕ, ◌+◌, ◌<◌, ◌≤◌, List, map, length, Result, Ok, Err, IfOk, IfErr, refl}
use Rattle.std.proofs.Common.{◌∙◌, ap, arith, rules, add-one, subst}
use Rattle.rob_algebra.specs.Fraction.{Fraction}
use Rattle.rob_algebra.specs.Width.{Fits}
use Rattle.rob_meaning.specs.Coefficients.{single, table}
use Rattle.rob_meaning.specs.Expressions.{number, parameter, variable, adaptive_in, sum, product}
use Rattle.rob_meaning.specs.RobustModel.{RobustModel, column_count}
use Rattle.rob_meaning.specs.WellFormed.{IsInside}
use Rattle.rob_model.specs.View.{expression_of, signed_of, terms_of, factors_of}
use Rattle.rob_model.specs.declared.expr.Expr.{Expr, the_lemmas}
use Rattle.rob_model.specs.declared.expr.Expr.TheVariants as Is
use Rattle.rob_model.specs.declared.expr.Term.{Term}
use Rattle.rob_model.proofs.ColumnLemmas.{column_first}
use Rattle.rob_model.proofs.PartLemmas.{adaptive_is, number_is, parameter_is, variable_is}
use Rattle.rob_sets.specs.Tables.{numbers_of}
use Rattle.rob_sets.specs.Tabulating.{Tabulates}
use Rattle.rob_sets.specs.declared.error.Stop.{Stop}
use Rattle.rob_sets.specs.declared.error.Stop.TheVariants as Stopped
use Rattle.rob_sets.specs.declared.table.Table.{Table}
use Rattle.rob_sets.proofs.Expressions.TabulatingLemmas.{default_leaf, leaf}

-- ---- what an expression is
module _ {N : Type 0} (value : N → Fraction) (e : Expr N) where
  pub adaptive_in_is : (y S : ℕ) → e ≡ Is.AdaptiveIn y S → expression_of value e ≡ adaptive_in y S
  adaptive_in_is y S h = search (rules, the_lemmas)

  pub sum_is : (ts us : List (Term N)) → e ≡ Is.Sum ts → us ≡ ts
      → expression_of value e ≡ sum (terms_of (map (signed_of value) us))
  sum_is ts us h same = search (rules, the_lemmas)

  pub product_is : (fs gs : List (Expr N)) → e ≡ Is.Product fs → gs ≡ fs
      → expression_of value e ≡ product (factors_of (map (expression_of value) gs))
  product_is fs gs h same = search (rules, the_lemmas)

-- ---- a 1 in the row of a parameter, or in the column of a variable
module _ {N : Type 0} (value : N → Fraction) (m : RobustModel) where
  pub parameter_table : (r : Result (Table N) Stop) (d : ℕ)
      → IfOk r (λ t. (k j : ℕ) → numbers_of value t k j ≡ single (d + 1) 0 k j)
      → IfOk r (λ t. (k j : ℕ) → numbers_of value t k j ≡ table m (parameter d) k j)
  parameter_table (Ok t) d h = λ k j. h k j ∙ ap (λ n. single n 0 k j) (add-one d)
  parameter_table (Err e) d h = tt

  pub variable_table : (r : Result (Table N) Stop) (v : ℕ)
      → IfOk r (λ t. (k j : ℕ) → numbers_of value t k j ≡ single 0 (v + 1) k j)
      → IfOk r (λ t. (k j : ℕ) → numbers_of value t k j ≡ table m (variable v) k j)
  variable_table (Ok t) v h = λ k j. h k j ∙ ap (λ n. single 0 n k j) (add-one v)
  variable_table (Err e) v h = tt

-- the variables are decision columns
pub few_variables : (m : RobustModel) → length m.variables ≤ column_count m
few_variables m = column_first (length m.variables) m.adaptives (length m.adaptives)

-- ---- the parts of an expression inside a model are inside
module _ {N : Type 0} (value : N → Fraction) (m : RobustModel) {e : Expr N} where
  pub variable_inside : {k : ℕ} → e ≡ Is.Var k → IsInside m (expression_of value e) → k < column_count m
  variable_inside {k} is inside =
      let at : k < length m.variables = subst (IsInside m) (ap (expression_of value) is ∙ variable_is value k) inside in
      omega (arith, at, few_variables m)

  pub adaptive_inside : {y : ℕ} → e ≡ Is.Adaptive y → IsInside m (expression_of value e) → y < length m.adaptives
  adaptive_inside {y} is inside = subst (IsInside m) (ap (expression_of value) is ∙ adaptive_is value y) inside

-- ---- the tables of expressions without parts
module _ {N : Type 0} (value : N → Fraction) (limit : ℕ) (fits : (x : N) → Fits limit (value x)) (one : 1 ≤ limit)
    (m : RobustModel) {e : Expr N} (first last : ℕ) (r : Result (Table N) Stop) where
  pub number_leaf : {x : N} → e ≡ Is.Number x
      → IfOk r (λ t. (k j : ℕ) → numbers_of value t k j ≡ table m (number (value x)) k j)
      → IfErr r (λ stop. stop ≡ Stopped.Memory) → Tabulates value limit m (expression_of value e) first last r
  number_leaf {x} is h memory =
      leaf value limit fits one m (expression_of value e) (number (value x)) first last r
      (ap (expression_of value) is ∙ number_is value x) refl h memory

  pub parameter_leaf : {d : ℕ} → e ≡ Is.Param d
      → IfOk r (λ t. (k j : ℕ) → numbers_of value t k j ≡ single (d + 1) 0 k j)
      → IfErr r (λ stop. stop ≡ Stopped.Memory) → Tabulates value limit m (expression_of value e) first last r
  parameter_leaf {d} is h memory =
      leaf value limit fits one m (expression_of value e) (parameter d) first last r
      (ap (expression_of value) is ∙ parameter_is value d) refl (parameter_table value m r d h) memory

  pub variable_leaf : {v : ℕ} → e ≡ Is.Var v
      → IfOk r (λ t. (k j : ℕ) → numbers_of value t k j ≡ single 0 (v + 1) k j)
      → IfErr r (λ stop. stop ≡ Stopped.Memory) → Tabulates value limit m (expression_of value e) first last r
  variable_leaf {v} is h memory =
      leaf value limit fits one m (expression_of value e) (variable v) first last r
      (ap (expression_of value) is ∙ variable_is value v) refl (variable_table value m r v h) memory

  pub rule_leaf : {y : ℕ} → e ≡ Is.Adaptive y → Tabulates value limit m (adaptive_in y 0) first last r
      → Tabulates value limit m (expression_of value e) first last r
  rule_leaf {y} is h =
      default_leaf value limit fits one m (expression_of value e) y first last r
      (ap (expression_of value) is ∙ adaptive_is value y) h
