-- A box of a branch on a variable with both bounds is as large as its model.
use Rattle.std.proofs.Common.{◌≡◌, ℕ, ◌+◌, ◌*◌, ◌<◌, ◌≤◌, zero, suc, List, [], ◌∷◌, ◌++◌, map, length, get_or, take, drop, Bool, true, false, T, refl, ap, ap₂, sym, subst, ◌∙◌, length-append, length-drop, append_assoc, ◌-◌, arith}
use Rattle.std.proofs.Math.Seq.{take-length}
use Rattle.std.proofs.lemmas.List.{take-append-drop, length-take-le, map-append}
use Rattle.std.specs.Prelude.{ℤ, Option, Some, None}
use Rattle.rob_algebra.specs.Fraction.{Fraction}
use Rattle.rob_meaning.specs.Expressions.{Expression, variable}
use Rattle.rob_meaning.specs.Forms.{forms, row_forms, variable_forms, adaptive_forms, bound_forms, sides}
use Rattle.rob_meaning.specs.RobustModel.{Variable, SetLine, line, budget, RobustModel, column_count, column_from}
use Rattle.rob_meaning.specs.SetRows.{lift_count, set_rows, statement_rows, bound_rows, member_rows, budget_row, expression_row}
use Rattle.rob_meaning.specs.WellFormed.{IsModel}
use Rattle.rob_model.specs.Limits.{IsWithinLimits, most_columns, most_size, model_size}
use Rattle.rob_reach.specs.Boxes.{Branch, behind, change_at, tightened}
use Rattle.rob_reach.specs.Ranges.{has_both, is_bounded}
use Rattle.rob_model.proofs.PartLemmas.{drop_at}
use Rattle.rob_model.specs.Valid.{IsValid}
use Rattle.rob_model.specs.View.{robust, variable_of}
use Rattle.rob_model.specs.declared.model.Model.{Model}
use Rattle.rob_model.specs.declared.model.Var.{Var}
use Rattle.rob_reach.proofs.BoxLemmas.{length-change_at, model_behind}

-- ---- the variables in front of the changed one, and those behind it
pub change_at-split : (f : Variable → Variable) (j : ℕ) (xs : List Variable) (x : Variable) (front back : List Variable)
    → xs ≡ front ++ x ∷ back → length front ≡ j → change_at f j xs ≡ front ++ f x ∷ back
change_at-split f j xs x front back e l =
    ap (change_at f j) e ∙ ap (λ n. change_at f n (front ++ x ∷ back)) (sym l) ∙ at_end front
  where
    at_end : (front : List Variable) → change_at f (length front) (front ++ x ∷ back) ≡ front ++ f x ∷ back
    at_end [] = refl
    at_end (y ∷ front) = ap (λ ys. y ∷ ys) (at_end front)

-- ---- how many forms there are
length-bound_forms : (e : Expression) (b : Bool) (k : ℤ) (x : Variable) → T (has_both x.lower x.upper)
    → length (bound_forms e (tightened b k x).lower (tightened b k x).upper) ≡ length (bound_forms e x.lower x.upper)
length-bound_forms e b k x h = by b x.lower x.upper h
  where
    by : (b : Bool) (l u : Option Fraction) → T (has_both l u)
        → length (bound_forms e (tightened b k (record x { lower = l; upper = u })).lower
        (tightened b k (record x { lower = l; upper = u })).upper)
        ≡ length (bound_forms e l u)
    by b None u h = absurd h
    by b (Some l) None h = absurd h
    by true (Some l) (Some u) h = refl
    by false (Some l) (Some u) h = refl

length-variable_forms : (b : Bool) (k : ℤ) (j first : ℕ) (xs : List Variable) → T (is_bounded xs j)
    → length (variable_forms first (change_at (tightened b k) j xs)) ≡ length (variable_forms first xs)
length-variable_forms b k j first [] h = absurd h
length-variable_forms b k zero first (x ∷ xs) h =
    length-append (bound_forms (variable first) (tightened b k x).lower (tightened b k x).upper)
    (variable_forms (suc first) xs)
    ∙ ap (λ n. n + length (variable_forms (suc first) xs)) (length-bound_forms (variable first) b k x h)
    ∙ sym (length-append (bound_forms (variable first) x.lower x.upper) (variable_forms (suc first) xs))
length-variable_forms b k (suc j) first (x ∷ xs) h =
    length-append (bound_forms (variable first) x.lower x.upper)
    (variable_forms (suc first) (change_at (tightened b k) j xs))
    ∙ ap (λ n. length (bound_forms (variable first) x.lower x.upper) + n) (length-variable_forms b k j (suc first) xs h)
    ∙ sym (length-append (bound_forms (variable first) x.lower x.upper) (variable_forms (suc first) xs))

length-map : {A B : Type 0} (f : A → B) (xs : List A) → length (map f xs) ≡ length xs
length-map f [] = refl
length-map f (x ∷ xs) = ap suc (length-map f xs)

module _ (m : RobustModel) (b : Branch) where
  pub length-forms : T (is_bounded m.variables b.variable) → length (forms (behind m b)) ≡ length (forms m)
  length-forms h =
      let vs = change_at (tightened b.is_upper b.bound) b.variable m.variables in
      ap suc
      (length-append (row_forms m.rows) (variable_forms zero vs ++ adaptive_forms zero m.adaptives)
      ∙ ap (λ n. length (row_forms m.rows) + n)
      (length-append (variable_forms zero vs) (adaptive_forms zero m.adaptives)
      ∙ ap (λ n. n + length (adaptive_forms zero m.adaptives))
      (length-variable_forms b.is_upper b.bound b.variable zero m.variables h)
      ∙ sym (length-append (variable_forms zero m.variables) (adaptive_forms zero m.adaptives)))
      ∙ sym (length-append (row_forms m.rows) (variable_forms zero m.variables ++ adaptive_forms zero m.adaptives)))

  -- ---- how many set rows there are
  length-statement_rows : (t : ℕ) (cs : List SetLine)
      → length (statement_rows (behind m b) t cs) ≡ length (statement_rows m t cs)
  length-statement_rows t [] = refl
  length-statement_rows t (line left relation right ∷ rest) =
      length-append (map (expression_row (behind m b)) (sides relation left right)) (statement_rows (behind m b) t rest)
      ∙ ap₂ ◌+◌
      (length-map (expression_row (behind m b)) (sides relation left right)
      ∙ sym (length-map (expression_row m) (sides relation left right)))
      (length-statement_rows t rest)
      ∙ sym (length-append (map (expression_row m) (sides relation left right)) (statement_rows m t rest))
  length-statement_rows t (budget limit members ∷ rest) =
      length-append (member_rows t members)
      (budget_row t limit members ∷ statement_rows (behind m b) (length members + t) rest)
      ∙ ap (λ n. length (member_rows t members) + suc n) (length-statement_rows (length members + t) rest)
      ∙ sym (length-append (member_rows t members)
      (budget_row t limit members ∷ statement_rows m (length members + t) rest))

  pub length-set_rows : length (set_rows (behind m b)) ≡ length (set_rows m)
  length-set_rows =
      length-append (bound_rows zero m.parameters) (statement_rows (behind m b) zero m.set_lines)
      ∙ ap (λ n. length (bound_rows zero m.parameters) + n) (length-statement_rows zero m.set_lines)
      ∙ sym (length-append (bound_rows zero m.parameters) (statement_rows m zero m.set_lines))

  -- ---- the limits
  pub column_count-behind : column_count (behind m b) ≡ column_count m
  column_count-behind =
      ap (λ n. column_from n m.adaptives (length m.adaptives))
      (length-change_at (tightened b.is_upper b.bound) b.variable m.variables)

  pub limits_behind : T (is_bounded m.variables b.variable) → IsWithinLimits m → IsWithinLimits (behind m b)
  limits_behind h w =
      record {
        parameters = w.parameters;
        sets = w.sets;
        columns = subst (λ n. n ≤ most_columns) (sym column_count-behind) w.columns;
        rows = w.rows;
        set_lines = w.set_lines;
        members = w.members;
        size = subst (λ n. n ≤ most_size) (sym size) w.size;
      }
    where
      size : model_size (behind m b) ≡ model_size m
      size = ap₂ (λ f r. f * (r + 2 * (length m.parameters + lift_count m.set_lines) + 1))
          (length-forms h) length-set_rows

-- ---- the program's variables
module _ {N : Type 0} where
  split_at : (xs : List N) (j : ℕ) (x : N) → j < length xs → x ≡ get_or xs j x → xs ≡ take j xs ++ x ∷ drop (j + 1) xs
  split_at xs j x inside is = sym (take-append-drop j xs) ∙ ap (λ l. take j xs ++ l) (drop_at xs j x inside is)

-- the items from a number to the end
pub rest_of : {X : Type 0} (xs : List X) (n : ℕ) → take (length xs - n) (drop n xs) ≡ drop n xs
rest_of xs n = ap (λ k. take k (drop n xs)) (sym (length-drop n xs)) ∙ take-length (drop n xs)

-- the list that has the variables in front, the changed one and those behind it
pub changed_at : {X : Type 0} (view : X → Variable) (f : Variable → Variable) (xs : List X) (j : ℕ) (x y : X)
    {none front middle all : List X}
    → j < length xs → x ≡ get_or xs j x → view y ≡ f (view x) → none ≡ [] → front ≡ none ++ take j xs
    → middle ≡ front ++ y ∷ []
    → all ≡ middle ++ drop (j + 1) xs → map view all ≡ change_at f j (map view xs)
changed_at view f xs j x y {none} {front} {middle} {all} inside is same empty first second third =
    ap (map view)
    (third ∙ ap (λ l. l ++ drop (j + 1) xs)
    (second ∙ ap (λ l. l ++ y ∷ []) (first ∙ ap (λ l. l ++ take j xs) empty)))
    ∙ ap (map view) (append_assoc (take j xs) (y ∷ []) (drop (j + 1) xs))
    ∙ map-append view (take j xs) (y ∷ drop (j + 1) xs)
    ∙ ap (λ v. map view (take j xs) ++ v ∷ map view (drop (j + 1) xs)) same
    ∙ sym (change_at-split f j (map view xs) (view x) (map view (take j xs)) (map view (drop (j + 1) xs))
    (ap (map view) (split_at xs j x inside is) ∙ map-append view (take j xs) (x ∷ drop (j + 1) xs))
    (length-map view (take j xs) ∙ length-take-le j xs (omega arith)))

module _ {N : Type 0} (value : N → Fraction) where
  -- a variable with both bounds is one of the model's
  pub column_in : (xs : List (Var N)) (j : ℕ) → T (is_bounded (map (variable_of value) xs) j) → j < length xs
  column_in [] j h = absurd h
  column_in (x ∷ xs) zero h = omega arith
  column_in (x ∷ xs) (suc j) h = let i : j < length xs = column_in xs j h in omega arith

  -- a box is valid
  pub valid_behind : (m copy : Model N) (vars : List (Var N)) (b : Branch) → copy ≡ m
      → map (variable_of value) vars
      ≡ change_at (tightened b.is_upper b.bound) b.variable (map (variable_of value) m.vars)
      → T (is_bounded (map (variable_of value) m.vars) b.variable) → IsValid value m
      → IsValid value (record copy { vars = vars })
  valid_behind m copy vars b equal changed bounded valid =
      record {
        well_formed = subst IsModel (sym same) (model_behind (robust value m) b valid.well_formed);
        limits = subst IsWithinLimits (sym same) (limits_behind (robust value m) b bounded valid.limits);
      }
    where
      same : robust value (record copy { vars = vars }) ≡ behind (robust value m) b
      same =
          ap (λ (k : Model N). record (robust value k) { variables = map (variable_of value) vars }) equal
          ∙ ap (λ (xs : List Variable). record (robust value m) { variables = xs }) changed
