-- The forms that a loop has left, and how many forms a model has.
use Rattle.std.specs.Prelude.{◌≡◌, ℕ, suc, ◌+◌, ◌*◌, ◌≤◌, List, [], ◌∷◌, ◌++◌, length, map, drop, Option, option_map}
use Rattle.std.proofs.Common.{sym, ◌∙◌, ap, ap₂, arith, add-one, length-append}
use Rattle.rob_algebra.specs.Fraction.{Fraction}
use Rattle.rob_meaning.specs.Expressions.{Expression, number, variable, adaptive}
use Rattle.rob_meaning.specs.Forms.{adaptive_forms, bound_forms, difference, row_forms, sides, variable_forms}
use Rattle.rob_meaning.specs.RobustModel.{Relation, at_most, at_least, equal, AdaptiveVariable, Row, RobustModel, Variable, column_count}
use Rattle.rob_meaning.specs.SetConditions.{if_declared}
use Rattle.rob_model.specs.View.{adaptive_of, expression_of, relation_of, row_of, variable_of}
use Rattle.rob_model.specs.declared.model.Adaptive.{Adaptive}
use Rattle.rob_model.specs.declared.model.RowDef.{RowDef}
use Rattle.rob_model.specs.declared.model.Var.{Var}
use Rattle.rob_model.specs.declared.expr.Expr.TheVariants as Is
use Rattle.rob_sets.proofs.WholeRows.BoundRowLemmas.{length-declared}
use Rattle.rob_sets.proofs.Cells.PartedLemmas.{Parted}
use Rattle.rob_model.proofs.PartLemmas.{adaptive_is, variable_is}
use Rattle.rob_model.proofs.NameCountLemmas.{columns_many}

-- ---- how many
sides_many : (rel : Relation) (l r : Expression) → length (sides rel l r) ≤ 2
sides_many at_most l r = omega arith
sides_many at_least l r = omega arith
sides_many equal l r = omega arith

pub rows_many : (rs : List Row) → length (row_forms rs) ≤ 2 * length rs
rows_many [] = omega arith
rows_many (r ∷ rs) =
    omega (
      arith,
      length-append (sides r.relation r.left r.right) (row_forms rs),
      sides_many r.relation r.left r.right,
      rows_many rs,
    )

bounds_many : (e : Expression) (lower upper : Option Fraction) → length (bound_forms e lower upper) ≤ 2
bounds_many e lower upper =
    omega (
      arith,
      length-append (if_declared (λ l. difference (number l) e) lower)
          (if_declared (λ b. difference e (number b)) upper),
      length-declared (λ l. difference (number l) e) lower,
      length-declared (λ b. difference e (number b)) upper,
    )

pub variables_many : (k : ℕ) (xs : List Variable) → length (variable_forms k xs) ≤ 2 * length xs
variables_many k [] = omega arith
variables_many k (x ∷ xs) =
    omega (
      arith,
      length-append (bound_forms (variable k) x.lower x.upper) (variable_forms (suc k) xs),
      bounds_many (variable k) x.lower x.upper,
      variables_many (suc k) xs,
    )

pub adaptives_many : (k : ℕ) (ys : List AdaptiveVariable) → length (adaptive_forms k ys) ≤ 2 * length ys
adaptives_many k [] = omega arith
adaptives_many k (y ∷ ys) =
    omega (
      arith,
      length-append (bound_forms (adaptive k) y.lower y.upper) (adaptive_forms (suc k) ys),
      bounds_many (adaptive k) y.lower y.upper,
      adaptives_many (suc k) ys,
    )

-- each adaptive variable has a decision column
pub few_rules : (m : RobustModel) → length m.adaptives ≤ column_count m
few_rules m = omega (arith, columns_many (length m.variables) m.adaptives)

-- ---- those that are left
module _ {N : Type 0} (value : N → Fraction) where
  -- the forms of the rows from a place on
  abbrev pub other_rows : List (RowDef N) → ℕ → List Expression
  other_rows rs i = row_forms (map (row_of value) (drop i rs))

  pub rows_at : (rs : List (RowDef N)) (i : ℕ) {r : RowDef N} → drop i rs ≡ r ∷ drop (i + 1) rs
      → Parted (other_rows rs i)
      (sides (relation_of r.rel) (expression_of value r.left) (expression_of value r.right)) (other_rows rs (i + 1))
  rows_at rs i at = record { is = ap (λ (xs : List (RowDef N)). row_forms (map (row_of value) xs)) at }

  pub rows_end : (rs : List (RowDef N)) (i : ℕ) → drop i rs ≡ [] → other_rows rs i ≡ []
  rows_end rs i over = ap (λ (xs : List (RowDef N)). row_forms (map (row_of value) xs)) over

  -- the forms of the bounds of the variables from a place on
  abbrev pub other_variables : List (Var N) → ℕ → List Expression
  other_variables xs i = variable_forms i (map (variable_of value) (drop i xs))

  pub variables_at : (xs : List (Var N)) (i n : ℕ) {x : Var N} → drop i xs ≡ x ∷ drop (i + 1) xs → n ≡ i
      → Parted (other_variables xs i)
      (bound_forms (expression_of value (Is.Var n)) (option_map value x.lower) (option_map value x.upper))
      (other_variables xs (i + 1))
  variables_at xs i n {x} at same = record {
    is = ap (λ (ys : List (Var N)). variable_forms i (map (variable_of value) ys)) at
        ∙ ap₂ (λ (y : Expression) a. bound_forms y (option_map value x.lower) (option_map value x.upper)
        ++ variable_forms a (map (variable_of value) (drop (i + 1) xs)))
        (sym (variable_is value n ∙ ap variable same)) (sym (add-one i));
  }

  pub variables_end : (xs : List (Var N)) (i : ℕ) → drop i xs ≡ [] → other_variables xs i ≡ []
  variables_end xs i over = ap (λ (ys : List (Var N)). variable_forms i (map (variable_of value) ys)) over

  -- the forms of the bounds of the adaptive variables from a place on
  abbrev pub other_rules : List (Adaptive N) → ℕ → List Expression
  other_rules ys i = adaptive_forms i (map (adaptive_of value) (drop i ys))

  pub rules_at : (ys : List (Adaptive N)) (i n : ℕ) {y : Adaptive N} → drop i ys ≡ y ∷ drop (i + 1) ys → n ≡ i
      → Parted (other_rules ys i)
      (bound_forms (expression_of value (Is.Adaptive n)) (option_map value y.lower) (option_map value y.upper))
      (other_rules ys (i + 1))
  rules_at ys i n {y} at same = record {
    is = ap (λ (zs : List (Adaptive N)). adaptive_forms i (map (adaptive_of value) zs)) at
        ∙ ap₂ (λ (z : Expression) a. bound_forms z (option_map value y.lower) (option_map value y.upper)
        ++ adaptive_forms a (map (adaptive_of value) (drop (i + 1) ys)))
        (sym (adaptive_is value n ∙ ap adaptive same)) (sym (add-one i));
  }

  pub rules_end : (ys : List (Adaptive N)) (i : ℕ) → drop i ys ≡ [] → other_rules ys i ≡ []
  rules_end ys i over = ap (λ (zs : List (Adaptive N)). adaptive_forms i (map (adaptive_of value) zs)) over
