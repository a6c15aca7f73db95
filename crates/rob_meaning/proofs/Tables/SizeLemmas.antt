-- A model has as many forms and set rows as its sizes say.
use Rattle.std.specs.Prelude.{◌≡◌, ℕ, zero, suc, ◌+◌, ◌*◌, List, [], ◌∷◌, ◌++◌, length, map, flat_map, refl, Option, Some, None, option_to_list}
use Rattle.std.proofs.Common.{ap, arith, length-append, suc-mul, zero-mul}
use Rattle.std.proofs.lemmas.List.{length-map}
use Rattle.rob_algebra.specs.Fraction.{Fraction}
use Rattle.rob_meaning.proofs.Conditions.SetRowLemmas.{length-member_rows}
use Rattle.rob_meaning.specs.Expressions.{Expression, adaptive, variable}
use Rattle.rob_meaning.specs.Forms.{adaptive_forms, bound_forms, forms, row_forms, sides, variable_forms}
use Rattle.rob_meaning.specs.RobustModel.{AdaptiveVariable, Parameter, Relation, RobustModel, Row, SetLine, Variable, at_least, at_most, budget, equal, in_set, joint_parameters, line}
use Rattle.rob_meaning.specs.SetConditions.{if_declared}
use Rattle.rob_meaning.specs.SetRows.{bound_rows, budget_row, expression_row, lower_row, member_rows, set_rows, statement_rows, upper_row}
use Rattle.rob_meaning.specs.Sizes.{adaptive_bounds, declared_count, variable_bounds}

-- ---- words for the counts of set rows and of forms
-- the declared bounds of parameters
abbrev pub parameter_bounds : List Parameter → ℕ
parameter_bounds [] = 0
parameter_bounds (p ∷ ps) = declared_count p.lower p.upper + parameter_bounds ps

-- how many inequalities a relation is
abbrev pub inequalities : Relation → ℕ
inequalities at_most = 1
inequalities at_least = 1
inequalities equal = 2

-- the inequalities of rows
abbrev pub row_inequalities : List Row → ℕ
row_inequalities [] = 0
row_inequalities (r ∷ rs) = inequalities r.relation + row_inequalities rs

-- the set rows of a statement: one or two for a line, and for a budget one and two for each member
abbrev pub line_rows : SetLine → ℕ
line_rows (line left relation right) = inequalities relation
line_rows (budget limit members) = 1 + 2 * length members

-- the set rows of statements
abbrev pub rows_of : List SetLine → ℕ
rows_of [] = 0
rows_of (c ∷ cs) = line_rows c + rows_of cs

-- ---- what stands for declared bounds
pub length-declared : {A : Type 0} (f : Fraction → A) (o : Option Fraction)
    → length (if_declared f o) ≡ length (option_to_list o)
length-declared f None = refl
length-declared f (Some b) = refl

length-both : {A : Type 0} (f g : Fraction → A) (lower upper : Option Fraction)
    → length (if_declared f lower ++ if_declared g upper) ≡ declared_count lower upper
length-both f g lower upper =
    omega (
      arith,
      length-append (if_declared f lower) (if_declared g upper),
      length-declared f lower,
      length-declared g upper,
    )

-- ---- forms
pub length-sides : (relation : Relation) (left right : Expression)
    → length (sides relation left right) ≡ inequalities relation
length-sides at_most left right = refl
length-sides at_least left right = refl
length-sides equal left right = refl

pub length-row_forms : (rs : List Row) → length (row_forms rs) ≡ row_inequalities rs
length-row_forms [] = refl
length-row_forms (r ∷ rs) =
    omega (
      arith,
      length-append (sides r.relation r.left r.right) (row_forms rs),
      length-sides r.relation r.left r.right,
      length-row_forms rs,
    )

length-bound_forms : (e : Expression) (lower upper : Option Fraction)
    → length (bound_forms e lower upper) ≡ declared_count lower upper
length-bound_forms e lower upper = length-both _ _ lower upper

pub length-variable_forms : (k : ℕ) (xs : List Variable) → length (variable_forms k xs) ≡ variable_bounds xs
length-variable_forms k [] = refl
length-variable_forms k (x ∷ xs) =
    omega (
      arith,
      length-append (bound_forms (variable k) x.lower x.upper) (variable_forms (suc k) xs),
      length-bound_forms (variable k) x.lower x.upper,
      length-variable_forms (suc k) xs,
    )

pub length-adaptive_forms : (k : ℕ) (ys : List AdaptiveVariable) → length (adaptive_forms k ys) ≡ adaptive_bounds ys
length-adaptive_forms k [] = refl
length-adaptive_forms k (y ∷ ys) =
    omega (
      arith,
      length-append (bound_forms (adaptive k) y.lower y.upper) (adaptive_forms (suc k) ys),
      length-bound_forms (adaptive k) y.lower y.upper,
      length-adaptive_forms (suc k) ys,
    )

-- the objective, and the forms of rows and of declared bounds
pub length-forms : (m : RobustModel) → length (forms m)
    ≡ 1 + (variable_bounds m.variables + adaptive_bounds m.adaptives + row_inequalities m.rows)
length-forms m =
    omega (
      arith,
      length-append (row_forms m.rows) (variable_forms zero m.variables ++ adaptive_forms zero m.adaptives),
      length-append (variable_forms zero m.variables) (adaptive_forms zero m.adaptives),
      length-row_forms m.rows,
      length-variable_forms zero m.variables,
      length-adaptive_forms zero m.adaptives,
    )

-- ---- set rows
length-bound_rows : (k : ℕ) (ps : List Parameter) → length (bound_rows k ps) ≡ parameter_bounds ps
length-bound_rows k [] = refl
length-bound_rows k (p ∷ ps) =
    omega (
      arith,
      length-append (if_declared (lower_row k) p.lower ++ if_declared (upper_row k) p.upper) (bound_rows (suc k) ps),
      length-both (lower_row k) (upper_row k) p.lower p.upper,
      length-bound_rows (suc k) ps,
    )

module _ (m : RobustModel) where
  length-statement_rows : (t : ℕ) (cs : List SetLine) → length (statement_rows m t cs) ≡ rows_of cs
  length-statement_rows t [] = refl
  length-statement_rows t (line left relation right ∷ cs) =
      omega (
        arith,
        length-append (map (expression_row m) (sides relation left right)) (statement_rows m t cs),
        length-map (sides relation left right) (expression_row m),
        length-sides relation left right,
        length-statement_rows t cs,
      )
  length-statement_rows t (budget limit members ∷ cs) =
      omega (
        arith,
        length-append (member_rows t members) (budget_row t limit members ∷ statement_rows m (length members + t) cs),
        length-member_rows t members,
        length-statement_rows (length members + t) cs,
      )

  -- the set rows of declared bounds and of statements
  pub length-set_rows : length (set_rows m) ≡ parameter_bounds m.parameters + rows_of m.set_lines
  length-set_rows =
      omega (
        arith,
        length-append (bound_rows zero m.parameters) (statement_rows m zero m.set_lines),
        length-bound_rows zero m.parameters,
        length-statement_rows zero m.set_lines,
      )

-- ---- the declared bounds of the parameters of each set
parameter_bounds-append : (ps qs : List Parameter)
    → parameter_bounds (ps ++ qs) ≡ parameter_bounds ps + parameter_bounds qs
parameter_bounds-append [] qs = omega arith
parameter_bounds-append (p ∷ ps) qs = omega (arith, parameter_bounds-append ps qs)

bounds-in_set : (set : List ℕ) (ps : List Parameter) → parameter_bounds (map (in_set set) ps) ≡ parameter_bounds ps
bounds-in_set set [] = refl
bounds-in_set set (p ∷ ps) = ap (λ n. declared_count p.lower p.upper + n) (bounds-in_set set ps)

-- each set has the declared bounds of the written parameters
pub bounds-joint : (ps : List Parameter) (sets : List (List ℕ))
    → parameter_bounds (joint_parameters ps sets) ≡ suc (length sets) * parameter_bounds ps
bounds-joint ps sets =
    omega (
      arith,
      parameter_bounds-append ps (flat_map (λ set. map (in_set set) ps) sets),
      later sets,
      suc-mul (length sets) (parameter_bounds ps),
    )
  where
    later : (sets : List (List ℕ)) → parameter_bounds (flat_map (λ set. map (in_set set) ps) sets)
        ≡ length sets * parameter_bounds ps
    later [] = omega (arith, zero-mul (parameter_bounds ps))
    later (set ∷ sets) =
        omega (
          arith,
          parameter_bounds-append (map (in_set set) ps) (flat_map (λ set. map (in_set set) ps) sets),
          bounds-in_set set ps,
          later sets,
          suc-mul (length sets) (parameter_bounds ps),
        )
