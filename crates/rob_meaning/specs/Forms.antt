-- The forms of a model: its robust constraints, each an expression that is at most 0, in order; and their whole
-- matrices. The objective's form has one column more, tau, for the bound: the epigraph of the objective. Ben-Tal, El
-- Ghaoui, Nemirovski, Robust Optimization (2009), chapter 1.
use Rattle.std.specs.Prelude.{ℕ, zero, suc, true, false, ℤ, List, [], ◌∷◌, ◌++◌, length, map, Option, slice_get, IfSome}
use Rattle.rob_algebra.specs.Fraction.{Fraction, ◌≤ℚ◌}
use Rattle.rob_meaning.specs.Clearing.{denominator, entries, cleared, fractions}
use Rattle.rob_meaning.specs.Coefficients.{Table, table}
use Rattle.rob_meaning.specs.Expressions.{Expression, number, variable, adaptive, sum, no_terms, term}
use Rattle.rob_meaning.specs.Places.{0ℚ, tabulate}
use Rattle.rob_meaning.specs.RobustModel.{Relation, at_most, at_least, equal, Sense, minimise, maximise, Variable, AdaptiveVariable, Row, RobustModel, column_count}
use Rattle.rob_meaning.specs.SetConditions.{if_declared}
use Rattle.rob_meaning.specs.Values.{value}
use Rattle.rob_meaning.specs.Vectors.{dot, mat_vec}

-- left less right, as an expression
abbrev pub difference : Expression → Expression → Expression
difference left right = sum (term false left (term true right no_terms))

-- the differences that are at most 0 where the sides stand in the relation
abbrev pub sides : Relation → Expression → Expression → List Expression
sides at_most left right = difference left right ∷ []
sides at_least left right = difference right left ∷ []
sides equal left right = difference left right ∷ difference right left ∷ []

-- the forms of the rows, an equality having two
abbrev pub row_forms : List Row → List Expression
row_forms [] = []
row_forms (r ∷ rs) = sides r.relation r.left r.right ++ row_forms rs

-- the forms of the declared bounds of an expression, lower before upper: l - e, and e - b
abbrev pub bound_forms : Expression → Option Fraction → Option Fraction → List Expression
bound_forms e lower upper =
    if_declared (λ l. difference (number l) e) lower ++ if_declared (λ b. difference e (number b)) upper

-- those of the variables from number k on
abbrev pub variable_forms : ℕ → List Variable → List Expression
variable_forms k [] = []
variable_forms k (x ∷ xs) = bound_forms (variable k) x.lower x.upper ++ variable_forms (suc k) xs

-- those of the adaptive variables from number k on
abbrev pub adaptive_forms : ℕ → List AdaptiveVariable → List Expression
adaptive_forms k [] = []
adaptive_forms k (y ∷ ys) = bound_forms (adaptive k) y.lower y.upper ++ adaptive_forms (suc k) ys

-- the objective's form: e - tau for minimise, tau - e for maximise
abbrev pub objective_form : Sense → Expression → Expression → Expression
objective_form minimise e tau = difference e tau
objective_form maximise e tau = difference tau e

module _ (m : RobustModel) where
  -- tau is read as the variable behind the last decision column
  abbrev pub tau_column : Expression
  tau_column = variable (column_count m)

  -- the forms in order: the objective, the rows, the bounds of variables, the bounds of adaptive variables
  abbrev pub forms : List Expression
  forms =
      objective_form m.sense m.objective tau_column
      ∷ (row_forms m.rows ++ (variable_forms zero m.variables ++ adaptive_forms zero m.adaptives))

  -- the number of rows of a form's matrix: the constant and the parameters
  abbrev pub form_rows : ℕ
  form_rows = suc (length m.parameters)

  -- the number of its columns: the constant, the decision columns and tau
  abbrev pub form_columns : ℕ
  form_columns = suc (suc (column_count m))

  -- the part of a table that the model's rows and columns reach
  abbrev pub entries_of : Table → List (List Fraction)
  entries_of f = tabulate form_rows (λ k. tabulate form_columns (λ j. f k j))

  -- the matrix of a form: its table times its least common denominator
  abbrev pub matrix_of : Expression → List (List ℤ)
  matrix_of e = cleared (entries_of (table m e))

  -- the number that its table is multiplied by: the least common denominator
  abbrev pub table_denominator : Expression → ℕ
  table_denominator e = denominator (entries (entries_of (table m e)))

  -- the matrices of the forms, in order
  abbrev pub matrices : List (List (List ℤ))
  matrices = map matrix_of forms

-- the matrix of a number; one without rows past the end
abbrev pub matrix_at : List (List (List ℤ)) → ℕ → List (List ℤ)
matrix_at [] i = []
matrix_at (a ∷ rest) zero = a
matrix_at (a ∷ rest) (suc i) = matrix_at rest i

-- the value of each row of a matrix at z
abbrev pub numbers_at : List (List ℤ) → List Fraction → List Fraction
numbers_at a z = mat_vec (fractions a) z

-- the sum over rows k and columns j of matrix entry times p_k times z_j, where p_0 = s
abbrev pub sum_at : List (List ℤ) → Fraction → List Fraction → List Fraction → Fraction
sum_at a s p z = dot (s ∷ p) (numbers_at a z)

-- the first number of a list
abbrev pub head_of : List Fraction → Fraction
head_of [] = 0ℚ
head_of (x ∷ xs) = x

-- the numbers behind the first
abbrev pub tail_of : List Fraction → List Fraction
tail_of [] = []
tail_of (x ∷ xs) = xs

-- the constant part of form i at z
abbrev pub constant_part : RobustModel → ℕ → List Fraction → Fraction
constant_part m i z = head_of (numbers_at (matrix_at (matrices m) i) z)

-- the parameter part of form i at z: a number for each parameter
abbrev pub parameter_part : RobustModel → ℕ → List Fraction → List Fraction
parameter_part m i z = tail_of (numbers_at (matrix_at (matrices m) i) z)

-- the whole sum of form i: matrix entry times p_k times z_j, where p_0 = s
abbrev pub form_at : RobustModel → ℕ → Fraction → List Fraction → List Fraction → Fraction
form_at m i s p z = sum_at (matrix_at (matrices m) i) s p z

-- the inequality of form i, as an expression, holds at a plan with tau in a scenario
abbrev pub FormHolds : RobustModel → ℕ → List Fraction → List Fraction → Fraction → Type 0
FormHolds m i scenario plan tau =
    IfSome (slice_get (forms m) i) (λ e. value m (plan ++ tau ∷ []) scenario e ≤ℚ 0ℚ)

-- a plan with tau as a vector z: it begins with 1 and ends with tau; the vector of a direction begins with 0
abbrev pub plan_vector : Fraction → List Fraction → Fraction → List Fraction
plan_vector first plan tau = first ∷ (plan ++ tau ∷ [])
