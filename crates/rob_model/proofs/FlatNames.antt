-- The names of each kind, one after another as they are spelled.
use Rattle.std.proofs.Common.{◌≡◌, ℕ, suc, List, [], ◌∷◌, ◌++◌, map, refl, ap, ap₂, sym, ◌∙◌, append_assoc}
use Rattle.std.specs.Fmt.{decimal}
use Rattle.std.specs.Prelude.{Option, Some, None, flat_map, codes}
use Rattle.std.proofs.lemmas.List.{append-nil, map-append}
use Rattle.rob_algebra.specs.Fraction.{Fraction}
use Rattle.rob_meaning.specs.Names.{Name, Parts, joined, parameter_name, member_parts, bound_parts, side_parts, rule_parts, statement_parts, lift_parts, condition_parts, by_number, parameter_bound_parts, set_column_names, set_condition_names}
use Rattle.rob_meaning.specs.RobustModel.{Relation, at_most, at_least, equal, Parameter, Variable, AdaptiveVariable, Member, Row, SetLine, line, budget, RobustModel}
use Rattle.rob_model.specs.GroupNames.{dotted, numbered, bound_names, side_names, rule_names, parameter_bound_names, member_names, statement_row_names, lift_names, condition_names}
use Rattle.rob_model.specs.NameGroups.{names}
use Rattle.rob_model.specs.declared.group.Kind.{Kind}
use Rattle.rob_model.specs.declared.group.Kind.TheVariants.{Form, Column, SetRow, SetPlace, Parameters}

-- what a list of statements has, each by its number, the first being statement n
unfoldable pub by_statement : (ℕ → SetLine → List Name) → ℕ → List SetLine → List Name
by_statement f n [] = []
by_statement f n (c ∷ cs) = f n c ++ by_statement f (suc n) cs

module _ (m : RobustModel) where
  unfoldable pub flat_conditions : List Name
  flat_conditions = parameter_bound_names m.parameters ++ by_statement condition_names 1 m.set_lines

  unfoldable pub flat_columns : List Name
  flat_columns = map (λ (p : Parameter). p.name) m.parameters ++ by_statement (lift_names m.parameters) 1 m.set_lines

  -- the names of a kind
  unfoldable pub flat : Kind → List Name
  flat Form =
      codes "objective"
      ∷ (flat_map (λ (r : Row). side_names r.relation r.name) m.rows
      ++ (flat_map (λ (x : Variable). bound_names x.name x.lower x.upper) m.variables
      ++ flat_map (λ (y : AdaptiveVariable). bound_names y.name y.lower y.upper) m.adaptives))
  flat Column = map (λ (x : Variable). x.name) m.variables ++ flat_map (rule_names m.parameters) m.adaptives
  flat SetRow = parameter_bound_names m.parameters ++ by_statement (statement_row_names m.parameters) 1 m.set_lines
  flat SetPlace = flat_conditions ++ flat_columns
  flat Parameters = map (λ (p : Parameter). p.name) m.parameters

-- ---- parts joined by dots
one : (a : Name) → joined (a ∷ []) ≡ a
one a = append-nil a

two : (a b : Name) → joined (a ∷ b ∷ []) ≡ dotted a b
two a b = ap (λ tail. a ++ (codes "." ++ tail)) (append-nil b)

three : (a b d : Name) → joined (a ∷ b ∷ d ∷ []) ≡ dotted (dotted a b) d
three a b d =
    ap (λ tail. a ++ (codes "." ++ (b ++ (codes "." ++ tail)))) (append-nil d)
    ∙ sym (append_assoc a (codes "." ++ b) (codes "." ++ d))

four : (a b d e : Name) → joined (a ∷ b ∷ d ∷ e ∷ []) ≡ dotted (dotted (dotted a b) d) e
four a b d e =
    ap (λ tail. a ++ (codes "." ++ (b ++ (codes "." ++ (d ++ (codes "." ++ tail)))))) (append-nil e)
    ∙ sym (append_assoc (dotted a b) (codes "." ++ d) (codes "." ++ e)
    ∙ append_assoc a (codes "." ++ b) ((codes "." ++ d) ++ (codes "." ++ e)))

each_joined : {A : Type 0} (f : A → List Name) (g : A → List Parts) → ((x : A) → f x ≡ map joined (g x)) → (xs : List A)
    → flat_map f xs ≡ map joined (flat_map g xs)
each_joined f g h [] = refl
each_joined f g h (x ∷ xs) = ap₂ ◌++◌ (h x) (each_joined f g h xs) ∙ sym (map-append joined (g x) (flat_map g xs))

statements_joined : (f : ℕ → SetLine → List Name) (g : ℕ → SetLine → List Parts)
    → ((n : ℕ) (c : SetLine) → f n c ≡ map joined (g n c)) → (n : ℕ) (cs : List SetLine)
    → by_statement f n cs ≡ map joined (by_number g n cs)
unfolding by_statement
statements_joined f g h n [] = refl
statements_joined f g h n (c ∷ cs) =
    ap₂ ◌++◌ (h n c) (statements_joined f g h (suc n) cs) ∙ sym (map-append joined (g n c) (by_number g (suc n) cs))

singles_joined : {A : Type 0} (f : A → Name) (xs : List A) → map f xs ≡ map joined (map (λ x. f x ∷ []) xs)
singles_joined f [] = refl
singles_joined f (x ∷ xs) = ap₂ ◌∷◌ (sym (one (f x))) (singles_joined f xs)

bounds_joined : (name : Name) (lower upper : Option Fraction)
    → bound_names name lower upper ≡ map joined (bound_parts name lower upper)
bounds_joined name None None = refl
bounds_joined name None (Some b) = ap (λ x. x ∷ []) (sym (two name (codes "upper")))
bounds_joined name (Some l) None = ap (λ x. x ∷ []) (sym (two name (codes "lower")))
bounds_joined name (Some l) (Some b) =
    ap₂ (λ x y. x ∷ y ∷ []) (sym (two name (codes "lower"))) (sym (two name (codes "upper")))

sides_joined : (r : Relation) (name : Name) → side_names r name ≡ map joined (side_parts r (name ∷ []))
sides_joined at_most name = ap (λ x. x ∷ []) (sym (one name))
sides_joined at_least name = ap (λ x. x ∷ []) (sym (one name))
sides_joined equal name = ap₂ (λ x y. x ∷ y ∷ []) (sym (two name (codes "le"))) (sym (two name (codes "ge")))

line_joined : (r : Relation) (n : ℕ)
    → side_names r (numbered (codes "set") n) ≡ map joined (side_parts r (codes "set" ∷ decimal n ∷ []))
line_joined at_most n = ap (λ x. x ∷ []) (sym (two (codes "set") (decimal n)))
line_joined at_least n = ap (λ x. x ∷ []) (sym (two (codes "set") (decimal n)))
line_joined equal n =
    ap₂ (λ x y. x ∷ y ∷ []) (sym (three (codes "set") (decimal n) (codes "le")))
    (sym (three (codes "set") (decimal n) (codes "ge")))

coefficients_joined : (name : Name) (ps : List Parameter) (on : List ℕ)
    → map (λ d. dotted name (parameter_name ps d)) on ≡ map joined (map (λ d. name ∷ parameter_name ps d ∷ []) on)
coefficients_joined name ps [] = refl
coefficients_joined name ps (d ∷ on) = ap₂ ◌∷◌ (sym (two name (parameter_name ps d))) (coefficients_joined name ps on)

rule_joined : (ps : List Parameter) (y : AdaptiveVariable) → rule_names ps y ≡ map joined (rule_parts ps y)
rule_joined ps y = ap₂ ◌∷◌ (sym (one y.name)) (coefficients_joined y.name ps y.on)

module _ (ps : List Parameter) where
  lifts_listed : (n : ℕ) (hs : List Member)
      → map (λ (h : Member). dotted (numbered (codes "t") n) (parameter_name ps h.parameter)) hs
      ≡ map joined (map (λ (h : Member). codes "t" ∷ decimal n ∷ parameter_name ps h.parameter ∷ []) hs)
  lifts_listed n [] = refl
  lifts_listed n (h ∷ hs) =
      ap₂ ◌∷◌ (sym (three (codes "t") (decimal n) (parameter_name ps h.parameter))) (lifts_listed n hs)

  lifts_joined : (n : ℕ) (c : SetLine) → lift_names ps n c ≡ map joined (lift_parts ps n c)
  lifts_joined n (line left relation right) = refl
  lifts_joined n (budget limit members) = lifts_listed n members

  member_joined : (n : ℕ) (h : Member)
      → member_names ps (numbered (codes "budget") n) h ≡ map joined (member_parts ps n h)
  member_joined n h =
      ap₂ (λ x y. x ∷ y ∷ []) (sym (four (codes "budget") (decimal n) (parameter_name ps h.parameter) (codes "up")))
      (sym (four (codes "budget") (decimal n) (parameter_name ps h.parameter) (codes "down")))

  rows_joined : (n : ℕ) (c : SetLine) → statement_row_names ps n c ≡ map joined (statement_parts ps n c)
  rows_joined n (line left relation right) = line_joined relation n
  rows_joined n (budget limit members) =
      ap₂ (λ x y. x ++ y ∷ [])
      (each_joined (member_names ps (numbered (codes "budget") n)) (member_parts ps n) (member_joined n) members)
      (sym (three (codes "budget") (decimal n) (codes "sum")))
      ∙ sym (map-append joined (flat_map (member_parts ps n) members)
      ((codes "budget" ∷ decimal n ∷ codes "sum" ∷ []) ∷ []))

conditions_joined : (n : ℕ) (c : SetLine) → condition_names n c ≡ map joined (condition_parts n c)
conditions_joined n (line left relation right) = ap (λ x. x ∷ []) (sym (two (codes "set") (decimal n)))
conditions_joined n (budget limit members) = ap (λ x. x ∷ []) (sym (two (codes "budget") (decimal n)))

parameter_bounds_joined : (ps : List Parameter) → parameter_bound_names ps ≡ map joined (parameter_bound_parts ps)
parameter_bounds_joined ps =
    each_joined (λ (d : Parameter). bound_names d.name d.lower d.upper)
    (λ (d : Parameter). bound_parts d.name d.lower d.upper) (λ d. bounds_joined d.name d.lower d.upper) ps

module _ (m : RobustModel) where
  pub conditions_are : flat_conditions m ≡ set_condition_names m
  unfolding flat_conditions
  conditions_are =
      ap₂ ◌++◌ (parameter_bounds_joined m.parameters)
      (statements_joined condition_names condition_parts conditions_joined 1 m.set_lines)
      ∙ sym (map-append joined (parameter_bound_parts m.parameters) (by_number condition_parts 1 m.set_lines))

  pub columns_are : flat_columns m ≡ set_column_names m
  unfolding flat_columns
  columns_are =
      ap₂ ◌++◌ (singles_joined (λ (d : Parameter). d.name) m.parameters)
      (statements_joined (lift_names m.parameters) (lift_parts m.parameters)
      (lifts_joined m.parameters) 1 m.set_lines)
      ∙ sym (map-append joined (map (λ (d : Parameter). d.name ∷ []) m.parameters)
      (by_number (lift_parts m.parameters) 1 m.set_lines))

  -- they are the names of the kind
  pub flat_is : (kind : Kind) → flat m kind ≡ names kind m
  unfolding flat
  flat_is Form =
      let rows = flat_map (λ (r : Row). side_parts r.relation (r.name ∷ [])) m.rows in
      let vars = flat_map (λ (x : Variable). bound_parts x.name x.lower x.upper) m.variables in
      let adaptives = flat_map (λ (y : AdaptiveVariable). bound_parts y.name y.lower y.upper) m.adaptives in
      ap₂ ◌∷◌ (sym (one (codes "objective")))
      (ap₂ ◌++◌ (each_joined (λ (r : Row). side_names r.relation r.name)
      (λ (r : Row). side_parts r.relation (r.name ∷ [])) (λ r. sides_joined r.relation r.name) m.rows)
      (ap₂ ◌++◌ (each_joined (λ (x : Variable). bound_names x.name x.lower x.upper)
      (λ (x : Variable). bound_parts x.name x.lower x.upper)
      (λ x. bounds_joined x.name x.lower x.upper) m.variables)
      (each_joined (λ (y : AdaptiveVariable). bound_names y.name y.lower y.upper)
      (λ (y : AdaptiveVariable). bound_parts y.name y.lower y.upper)
      (λ y. bounds_joined y.name y.lower y.upper) m.adaptives)
      ∙ sym (map-append joined vars adaptives))
      ∙ sym (map-append joined rows (vars ++ adaptives)))
  flat_is Column =
      ap₂ ◌++◌ (singles_joined (λ (x : Variable). x.name) m.variables)
      (each_joined (rule_names m.parameters) (rule_parts m.parameters) (rule_joined m.parameters) m.adaptives)
      ∙ sym (map-append joined (map (λ (x : Variable). x.name ∷ []) m.variables)
      (flat_map (rule_parts m.parameters) m.adaptives))
  flat_is SetRow =
      ap₂ ◌++◌ (parameter_bounds_joined m.parameters)
      (statements_joined (statement_row_names m.parameters) (statement_parts m.parameters)
      (rows_joined m.parameters) 1 m.set_lines)
      ∙ sym (map-append joined (parameter_bound_parts m.parameters)
      (by_number (statement_parts m.parameters) 1 m.set_lines))
  flat_is SetPlace = ap₂ ◌++◌ conditions_are columns_are
  flat_is Parameters = refl
