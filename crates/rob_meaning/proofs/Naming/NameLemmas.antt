-- Each list of names is as long as what it names.
use Rattle.std.proofs.Common.{sym, ◌∙◌, ap, ap₂, refl, arith, append_assoc, length-append}
use Rattle.std.proofs.lemmas.List.{length-map}
use Rattle.std.specs.Fmt.{decimal}
use Rattle.std.specs.Prelude.{◌≡◌, ℕ, zero, suc, ◌+◌, List, [], ◌∷◌, ◌++◌, length, map, flat_map, codes, Option, Some, None}
use Rattle.rob_algebra.specs.Fraction.{Fraction}
use Rattle.rob_meaning.specs.Forms.{difference, sides, row_forms, bound_forms, variable_forms, adaptive_forms, forms}
use Rattle.rob_meaning.specs.Expressions.{Expression, number, variable, adaptive}
use Rattle.rob_meaning.specs.Names.{Name, Parts, joined, parameter_name, bound_parts, side_parts, rule_parts, column_parts, column_names, column_names_with_tau, form_parts, form_names, parameter_bound_parts, member_parts, statement_parts, lift_parts, condition_parts, by_number, set_row_names, set_column_names, set_condition_names}
use Rattle.rob_meaning.specs.RobustModel.{Relation, at_most, at_least, equal, Parameter, Variable, AdaptiveVariable, Member, SetLine, line, budget, Row, RobustModel, column_from, column_count}
use Rattle.rob_meaning.specs.SetConditions.{lower_bound, upper_bound, if_declared, bounds_of, bounds_from, all_stated, set_conditions}
use Rattle.rob_meaning.specs.SetRows.{lift_count, bound_rows, lower_row, upper_row, member_rows, budget_row, statement_rows, expression_row, set_rows, set_column_count}

module _ {A B : Type 0} where
  both_append : (a c : List A) (b d : List B) → length a ≡ length b → length c ≡ length d →
      length (a ++ c) ≡ length (b ++ d)
  both_append a c b d e f = length-append a c ∙ ap₂ ◌+◌ e f ∙ sym (length-append b d)

  -- one item for a bound, where it is declared
  both_declared : (f : Fraction → A) (g : Fraction → B) (o : Option Fraction) →
      length (if_declared f o) ≡ length (if_declared g o)
  both_declared f g None = refl
  both_declared f g (Some x) = refl

  -- two items for a lower and an upper bound, where they are declared
  both_bounds : (f h : Fraction → A) (g k : Fraction → B) (lower upper : Option Fraction) →
      length (if_declared f lower ++ if_declared h upper) ≡ length (if_declared g lower ++ if_declared k upper)
  both_bounds f h g k lower upper =
      both_append (if_declared f lower) (if_declared h upper) (if_declared g lower) (if_declared k upper)
      (both_declared f g lower) (both_declared h k upper)

-- ---- decision columns
length-rule_parts : (ps : List Parameter) (y : AdaptiveVariable) → length (rule_parts ps y) ≡ suc (length y.on)
length-rule_parts ps y = ap suc (length-map y.on (λ d. y.name ∷ parameter_name ps d ∷ []))

shifted : (column a b c : ℕ) → b ≡ suc a → column + (b + c) ≡ (suc column + a) + c
shifted column a b c e = omega arith

rule_columns : (ps : List Parameter) (column : ℕ) (ys : List AdaptiveVariable) →
    column + length (flat_map (rule_parts ps) ys) ≡ column_from column ys (length ys)
rule_columns ps column [] = omega arith
rule_columns ps column (y ∷ ys) =
    ap (λ n. column + n) (length-append (rule_parts ps y) (flat_map (rule_parts ps) ys))
    ∙ shifted column (length y.on) (length (rule_parts ps y)) (length (flat_map (rule_parts ps) ys))
    (length-rule_parts ps y)
    ∙ rule_columns ps (suc column + length y.on) ys

-- ---- forms
length-sides : (relation : Relation) (parts : Parts) (l r : Expression) →
    length (side_parts relation parts) ≡ length (sides relation l r)
length-sides at_most parts l r = refl
length-sides at_least parts l r = refl
length-sides equal parts l r = refl

length-row_forms : (rs : List Row) →
    length (flat_map (λ (r : Row). side_parts r.relation (r.name ∷ [])) rs) ≡ length (row_forms rs)
length-row_forms [] = refl
length-row_forms (r ∷ rs) =
    both_append (side_parts r.relation (r.name ∷ [])) (flat_map (λ (r : Row). side_parts r.relation (r.name ∷ [])) rs)
    (sides r.relation r.left r.right) (row_forms rs)
    (length-sides r.relation (r.name ∷ []) r.left r.right) (length-row_forms rs)

length-bounds : (name : Name) (e : Expression) (lower upper : Option Fraction) →
    length (bound_parts name lower upper) ≡ length (bound_forms e lower upper)
length-bounds name e lower upper =
    both_bounds (λ l. name ∷ codes "lower" ∷ []) (λ b. name ∷ codes "upper" ∷ []) (λ l. difference (number l) e)
    (λ b. difference e (number b)) lower upper

length-variables : (k : ℕ) (xs : List Variable) →
    length (flat_map (λ (x : Variable). bound_parts x.name x.lower x.upper) xs) ≡ length (variable_forms k xs)
length-variables k [] = refl
length-variables k (x ∷ xs) =
    both_append (bound_parts x.name x.lower x.upper)
    (flat_map (λ (x : Variable). bound_parts x.name x.lower x.upper) xs)
    (bound_forms (variable k) x.lower x.upper) (variable_forms (suc k) xs)
    (length-bounds x.name (variable k) x.lower x.upper) (length-variables (suc k) xs)

length-adaptives : (k : ℕ) (ys : List AdaptiveVariable) →
    length (flat_map (λ (y : AdaptiveVariable). bound_parts y.name y.lower y.upper) ys) ≡ length (adaptive_forms k ys)
length-adaptives k [] = refl
length-adaptives k (y ∷ ys) =
    both_append (bound_parts y.name y.lower y.upper)
    (flat_map (λ (y : AdaptiveVariable). bound_parts y.name y.lower y.upper) ys)
    (bound_forms (adaptive k) y.lower y.upper) (adaptive_forms (suc k) ys)
    (length-bounds y.name (adaptive k) y.lower y.upper) (length-adaptives (suc k) ys)

-- ---- the uncertainty set
length-conditions : (k : ℕ) (ps : List Parameter) → length (parameter_bound_parts ps) ≡ length (bounds_from k ps)
length-conditions k [] = refl
length-conditions k (p ∷ ps) =
    both_append (bound_parts p.name p.lower p.upper) (parameter_bound_parts ps) (bounds_of k p) (bounds_from (suc k) ps)
    (both_bounds (λ l. p.name ∷ codes "lower" ∷ []) (λ b. p.name ∷ codes "upper" ∷ []) (lower_bound k) (upper_bound k)
    p.lower p.upper)
    (length-conditions (suc k) ps)

length-bound_rows : (k : ℕ) (ps : List Parameter) → length (parameter_bound_parts ps) ≡ length (bound_rows k ps)
length-bound_rows k [] = refl
length-bound_rows k (p ∷ ps) =
    both_append (bound_parts p.name p.lower p.upper) (parameter_bound_parts ps)
    (if_declared (lower_row k) p.lower ++ if_declared (upper_row k) p.upper) (bound_rows (suc k) ps)
    (both_bounds (λ l. p.name ∷ codes "lower" ∷ []) (λ b. p.name ∷ codes "upper" ∷ []) (lower_row k) (upper_row k)
    p.lower p.upper)
    (length-bound_rows (suc k) ps)

length-stated : (n : ℕ) (cs : List SetLine) → length (by_number condition_parts n cs) ≡ length (all_stated cs)
length-stated n [] = refl
length-stated n (line l relation r ∷ cs) = ap suc (length-stated (suc n) cs)
length-stated n (budget limit hs ∷ cs) = ap suc (length-stated (suc n) cs)

module _ (m : RobustModel) where
  length-member_rows : (ps : List Parameter) (n t : ℕ) (hs : List Member) →
      length (flat_map (member_parts ps n) hs) ≡ length (member_rows t hs)
  length-member_rows ps n t [] = refl
  length-member_rows ps n t (h ∷ hs) = ap (λ k. suc (suc k)) (length-member_rows ps n (suc t) hs)

  length-sides_rows : (relation : Relation) (parts : Parts) (l r : Expression) →
      length (side_parts relation parts) ≡ length (map (expression_row m) (sides relation l r))
  length-sides_rows at_most parts l r = refl
  length-sides_rows at_least parts l r = refl
  length-sides_rows equal parts l r = refl

  length-statement_rows : (ps : List Parameter) (n t : ℕ) (cs : List SetLine) →
      length (by_number (statement_parts ps) n cs) ≡ length (statement_rows m t cs)
  length-statement_rows ps n t [] = refl
  length-statement_rows ps n t (line l relation r ∷ cs) =
      both_append (statement_parts ps n (line l relation r)) (by_number (statement_parts ps) (suc n) cs)
      (map (expression_row m) (sides relation l r)) (statement_rows m t cs)
      (length-sides_rows relation (codes "set" ∷ decimal n ∷ []) l r) (length-statement_rows ps (suc n) t cs)
  length-statement_rows ps n t (budget limit hs ∷ cs) =
      let members = flat_map (member_parts ps n) hs in
      let last = (codes "budget" ∷ decimal n ∷ codes "sum" ∷ []) ∷ [] in
      let rest = by_number (statement_parts ps) (suc n) cs in
      ap length (append_assoc members last rest)
      ∙ both_append members (last ++ rest) (member_rows t hs)
      (budget_row t limit hs ∷ statement_rows m (length hs + t) cs)
      (length-member_rows ps n t hs) (ap suc (length-statement_rows ps (suc n) (length hs + t) cs))

  length-lifts : (ps : List Parameter) (n : ℕ) (cs : List SetLine) →
      length (by_number (lift_parts ps) n cs) ≡ lift_count cs
  length-lifts ps n [] = refl
  length-lifts ps n (line l relation r ∷ cs) = length-lifts ps (suc n) cs
  length-lifts ps n (budget limit hs ∷ cs) =
      length-append (lift_parts ps n (budget limit hs)) (by_number (lift_parts ps) (suc n) cs)
      ∙ ap₂ ◌+◌ (length-map hs (λ (h : Member). codes "t" ∷ decimal n ∷ parameter_name ps h.parameter ∷ []))
      (length-lifts ps (suc n) cs)

  -- ---- the lists of a model
  pub length-column_names : length (column_names m) ≡ column_count m
  length-column_names =
      length-map (column_parts m) joined
      ∙ length-append (map (λ (x : Variable). x.name ∷ []) m.variables) (flat_map (rule_parts m.parameters) m.adaptives)
      ∙ ap (λ n. n + length (flat_map (rule_parts m.parameters) m.adaptives))
      (length-map m.variables (λ (x : Variable). x.name ∷ []))
      ∙ rule_columns m.parameters (length m.variables) m.adaptives

  pub length-column_names_with_tau : length (column_names_with_tau m) ≡ suc (column_count m)
  length-column_names_with_tau =
      length-append (column_names m) (codes "tau" ∷ []) ∙ ap (λ n. n + 1) length-column_names ∙ omega arith

  pub length-form_names : length (form_names m) ≡ length (forms m)
  length-form_names =
      length-map (form_parts m) joined
      ∙ ap suc
      (both_append (flat_map (λ (r : Row). side_parts r.relation (r.name ∷ [])) m.rows) _ (row_forms m.rows) _
      (length-row_forms m.rows)
      (both_append (flat_map (λ (x : Variable). bound_parts x.name x.lower x.upper) m.variables) _
      (variable_forms zero m.variables) _
      (length-variables zero m.variables) (length-adaptives zero m.adaptives)))

  pub length-set_row_names : length (set_row_names m) ≡ length (set_rows m)
  length-set_row_names =
      let stated = by_number (statement_parts m.parameters) 1 m.set_lines in
      length-map (parameter_bound_parts m.parameters ++ stated) joined
      ∙ both_append (parameter_bound_parts m.parameters) stated (bound_rows zero m.parameters)
      (statement_rows m zero m.set_lines)
      (length-bound_rows zero m.parameters) (length-statement_rows m.parameters 1 zero m.set_lines)

  pub length-set_column_names : length (set_column_names m) ≡ set_column_count m
  length-set_column_names =
      let own = map (λ (p : Parameter). p.name ∷ []) m.parameters in
      let lifts = by_number (lift_parts m.parameters) 1 m.set_lines in
      length-map (own ++ lifts) joined ∙ length-append own lifts
      ∙ ap₂ ◌+◌ (length-map m.parameters (λ (p : Parameter). p.name ∷ [])) (length-lifts m.parameters 1 m.set_lines)

  pub length-set_condition_names : length (set_condition_names m) ≡ length (set_conditions m)
  length-set_condition_names =
      let stated = by_number condition_parts 1 m.set_lines in
      length-map (parameter_bound_parts m.parameters ++ stated) joined
      ∙ both_append (parameter_bound_parts m.parameters) stated (bounds_from zero m.parameters) (all_stated m.set_lines)
      (length-conditions zero m.parameters) (length-stated 1 m.set_lines)
