-- A model within the limits has few names of each kind.
use Rattle.std.proofs.Common.{◌≡◌, ℕ, zero, suc, ◌+◌, ◌*◌, ◌≤◌, List, [], ◌∷◌, ◌++◌, length, arith, refl, ap, length-append}
use Rattle.std.specs.Prelude.{Option, Some, slice_get, flat_map, codes}
use Rattle.std.proofs.lemmas.List.{length-map}
use Rattle.rob_algebra.specs.Fraction.{Fraction}
use Rattle.rob_meaning.specs.Names.{Name}
use Rattle.rob_model.specs.GroupNames.{numbered, side_names, bound_names, statement_row_names, condition_names, parameter_bound_names}
use Rattle.rob_meaning.specs.RobustModel.{Parameter, Variable, AdaptiveVariable, Row, Relation, at_most, at_least, equal, SetLine, line, budget, RobustModel, column_from}
use Rattle.rob_meaning.specs.SetRows.{lift_count}
use Rattle.rob_meaning.proofs.Naming.NameLemmas.{length-column_names, length-set_column_names}
use Rattle.rob_model.specs.Limits.{IsWithinLimits}
use Rattle.rob_model.specs.NameGroups.{groups, names, together}
use Rattle.rob_model.specs.declared.group.Kind.{Kind}
use Rattle.rob_model.specs.declared.group.Kind.TheVariants.{Form, Column, SetRow, SetPlace, Parameters}
use Rattle.rob_model.proofs.ConditionLemmas.{few_declared, length-bound_names}
use Rattle.rob_model.proofs.GroupLemmas.{length-budget_rows}
use Rattle.rob_model.proofs.KeptLemmas.{some_is}
use Rattle.rob_model.proofs.FlatNames.{by_statement, flat, flat_conditions, flat_columns, flat_is, columns_are}
use Rattle.rob_model.proofs.NamingLemmas.{together-names}

two_bounds : (name : Name) (lower upper : Option Fraction) → length (bound_names name lower upper) ≤ 2
two_bounds name lower upper = omega (arith, length-bound_names name lower upper, few_declared lower, few_declared upper)

two_sides : (r : Relation) (name : Name) → length (side_names r name) ≤ 2
two_sides at_most name = omega arith
two_sides at_least name = omega arith
two_sides equal name = omega arith

two_each : {A : Type 0} (f : A → List Name) → ((x : A) → length (f x) ≤ 2) → (xs : List A)
    → length (flat_map f xs) ≤ 2 * length xs
two_each f h [] = omega arith
two_each f h (x ∷ xs) = omega (arith, h x, two_each f h xs, length-append (f x) (flat_map f xs))

row_names_few : (ps : List Parameter) (n : ℕ) (cs : List SetLine)
    → length (by_statement (statement_row_names ps) n cs) ≤ 2 * length cs + 2 * lift_count cs
unfolding by_statement
row_names_few ps n [] = omega arith
row_names_few ps n (line l r e ∷ cs) =
    omega (
      arith,
      two_sides r (numbered (codes "set") n),
      row_names_few ps (suc n) cs,
      length-append (statement_row_names ps n (line l r e)) (by_statement (statement_row_names ps) (suc n) cs),
    )
row_names_few ps n (budget limit hs ∷ cs) =
    omega (
      arith,
      length-budget_rows {N = Fraction} (λ x. x) ps n limit hs,
      row_names_few ps (suc n) cs,
      length-append (statement_row_names ps n (budget limit hs)) (by_statement (statement_row_names ps) (suc n) cs),
    )

conditions_few : (n : ℕ) (cs : List SetLine) → length (by_statement condition_names n cs) ≡ length cs
unfolding by_statement
conditions_few n [] = omega arith
conditions_few n (line l r e ∷ cs) = ap suc (conditions_few (suc n) cs)
conditions_few n (budget limit hs ∷ cs) = ap suc (conditions_few (suc n) cs)

-- each adaptive variable has a column
pub columns_many : (column : ℕ) (ys : List AdaptiveVariable) → column + length ys ≤ column_from column ys (length ys)
columns_many column [] = omega arith
columns_many column (y ∷ ys) = omega (arith, columns_many (suc column + length y.on) ys)

bounds_few : (ps : List Parameter) → length (parameter_bound_names ps) ≤ 2 * length ps
bounds_few ps =
    two_each (λ (d : Parameter). bound_names d.name d.lower d.upper) (λ d. two_bounds d.name d.lower d.upper) ps

module _ (m : RobustModel) where
  -- two forms at most for each row, variable and adaptive variable, and the objective
  forms_few : length (flat m Form) ≤ 1 + 2 * (length m.rows + length m.variables + length m.adaptives)
  unfolding flat
  forms_few =
      let rows = flat_map (λ (r : Row). side_names r.relation r.name) m.rows in
      let vars = flat_map (λ (x : Variable). bound_names x.name x.lower x.upper) m.variables in
      let adaptives = flat_map (λ (y : AdaptiveVariable). bound_names y.name y.lower y.upper) m.adaptives in
      omega (
        arith,
        length-append rows (vars ++ adaptives),
        length-append vars adaptives,
        two_each (λ (r : Row). side_names r.relation r.name) (λ r. two_sides r.relation r.name) m.rows,
        two_each (λ (x : Variable). bound_names x.name x.lower x.upper)
            (λ x. two_bounds x.name x.lower x.upper) m.variables,
        two_each (λ (y : AdaptiveVariable). bound_names y.name y.lower y.upper)
            (λ y. two_bounds y.name y.lower y.upper) m.adaptives,
      )

  -- two set rows at most for each parameter, statement and member
  set_rows_few : length (flat m SetRow) ≤ 2 * (length m.parameters + length m.set_lines + lift_count m.set_lines)
  unfolding flat
  set_rows_few =
      omega (
        arith,
        bounds_few m.parameters,
        row_names_few m.parameters 1 m.set_lines,
        length-append (parameter_bound_names m.parameters)
            (by_statement (statement_row_names m.parameters) 1 m.set_lines),
      )

module _ (m : RobustModel) (limits : IsWithinLimits m) where
  flat_conditions_few : length (flat_conditions m) ≤ 2 * length m.parameters + length m.set_lines
  unfolding flat_conditions
  flat_conditions_few =
      omega (
        arith,
        bounds_few m.parameters,
        conditions_few 1 m.set_lines,
        length-append (parameter_bound_names m.parameters) (by_statement condition_names 1 m.set_lines),
      )

  names_few : (kind : Kind) → length (flat m kind) ≤ 5000
  unfolding flat
  names_few Form =
      omega (arith, limits.rows, limits.columns, columns_many (length m.variables) m.adaptives, forms_few m)
  names_few Column = omega (arith, limits.columns, length-column_names m, ap length (flat_is m Column))
  names_few SetRow = omega (arith, limits.parameters, limits.set_lines, limits.members, set_rows_few m)
  names_few SetPlace =
      let is : flat m SetPlace ≡ flat_conditions m ++ flat_columns m = refl in
      omega (
        arith,
        ap length is,
        limits.parameters,
        limits.set_lines,
        limits.members,
        flat_conditions_few,
        length-append (flat_conditions m) (flat_columns m),
        ap length (columns_are m),
        length-set_column_names m,
      )
  names_few Parameters = omega (arith, limits.parameters, length-map m.parameters (λ (d : Parameter). d.name))

  pub kind_few : (kind : Kind) → length (names kind m) ≤ 5000
  kind_few kind = omega (arith, names_few kind, ap length (flat_is m kind))

  -- a group has no more names than its kind
  within : (gs : List (List Name)) (i : ℕ) (g : List Name) → slice_get gs i ≡ Some g → length g ≤ length (together gs)
  within [] i g e = cc
  within (x ∷ xs) zero g e = omega (arith, ap length (some_is e), length-append x (together xs))
  within (x ∷ xs) (suc i) g e = omega (arith, within xs i g e, length-append x (together xs))

  pub group_few : (kind : Kind) (i : ℕ) (g : List Name) → slice_get (groups kind m) i ≡ Some g → length g ≤ 5000
  group_few kind i g e = omega (arith, within (groups kind m) i g e, ap length (together-names m kind), kind_few kind)
