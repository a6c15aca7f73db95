-- The lifted set: the uncertainty set as linear rows in the parameters and in one more column t for each budget's
-- member. A set row says: the sum over the parameters, plus the sum over the columns t, is at most its right side.
-- Bertsimas and Sim, The Price of Robustness (2004): a budget's absolute values as linear rows.
use Rattle.std.specs.Prelude.{◌≡◌, ℕ, zero, suc, ◌+◌, ◌/◌, ℤ, List, [], ◌∷◌, ◌++◌, length, map, get_or, slice_index_or, pos}
use Rattle.rob_algebra.specs.Fraction.{Fraction, of_int, ◌+ℚ◌, ◌*ℚ◌, neg_ℚ, ◌≤ℚ◌}
use Rattle.rob_meaning.specs.Clearing.{denominator, whole_at}
use Rattle.rob_meaning.specs.Coefficients.{unit, table}
use Rattle.rob_meaning.specs.Expressions.{Expression}
use Rattle.rob_meaning.specs.Forms.{sides}
use Rattle.rob_meaning.specs.Places.{0ℚ, tabulate, Each}
use Rattle.rob_meaning.specs.RobustModel.{Parameter, Member, SetLine, line, budget, RobustModel, written_count, line_set}
use Rattle.rob_meaning.specs.SetConditions.{if_declared}
use Rattle.rob_meaning.specs.Vectors.{dot}

-- a set row: its coefficients by the number of a parameter and by that of a column t, and its right side
pub record SetRow : Type 0 where
  pub on_parameters : ℕ → Fraction
  pub on_lifts : ℕ → Fraction
  pub limit : Fraction

-- the number of columns t: the members of all budgets
abbrev pub lift_count : List SetLine → ℕ
lift_count [] = 0
lift_count (line left relation right ∷ rest) = lift_count rest
lift_count (budget limit members ∷ rest) = length members + lift_count rest

-- d >= l, as -d <= -l
abbrev pub lower_row : ℕ → Fraction → SetRow
lower_row k l = record { on_parameters = λ i. neg_ℚ (unit k i); on_lifts = λ t. 0ℚ; limit = neg_ℚ l }

-- d <= b
abbrev pub upper_row : ℕ → Fraction → SetRow
upper_row k b = record { on_parameters = unit k; on_lifts = λ t. 0ℚ; limit = b }

-- the rows of the declared bounds of the parameters from number `k` on, lower before upper
abbrev pub bound_rows : ℕ → List Parameter → List SetRow
bound_rows k [] = []
bound_rows k (p ∷ ps) =
    (if_declared (lower_row k) p.lower ++ if_declared (upper_row k) p.upper) ++ bound_rows (suc k) ps

-- d - h t <= c: a member of centre c and deviation h whose column t has number `t`
abbrev pub up_row : ℕ → Member → SetRow
up_row t h = record {
  on_parameters = unit h.parameter;
  on_lifts = λ i. neg_ℚ h.deviation *ℚ unit t i;
  limit = h.centre;
}

-- -d - h t <= -c
abbrev pub down_row : ℕ → Member → SetRow
down_row t h = record {
  on_parameters = λ i. neg_ℚ (unit h.parameter i);
  on_lifts = λ i. neg_ℚ h.deviation *ℚ unit t i;
  limit = neg_ℚ h.centre;
}

-- the rows of the members, two for each, where the first one's column t has number `t`
abbrev pub member_rows : ℕ → List Member → List SetRow
member_rows t [] = []
member_rows t (h ∷ hs) = up_row t h ∷ (down_row t h ∷ member_rows (suc t) hs)

-- 1 in the members' columns t, the first having number `t`, and 0 elsewhere
abbrev pub members_sum : ℕ → List Member → ℕ → Fraction
members_sum t [] i = 0ℚ
members_sum t (h ∷ hs) i = unit t i +ℚ members_sum (suc t) hs i

-- the sum of the members' t is at most the budget's limit
abbrev pub budget_row : ℕ → Fraction → List Member → SetRow
budget_row t limit members = record { on_parameters = λ i. 0ℚ; on_lifts = members_sum t members; limit = limit }

module _ (m : RobustModel) where
  -- an expression over the parameters is at most 0, its constant being moved to the right
  abbrev pub expression_row : Expression → SetRow
  expression_row e =
      record { on_parameters = λ k. table m e (suc k) 0; on_lifts = λ t. 0ℚ; limit = neg_ℚ (table m e 0 0) }

  -- the rows of the statements, where the next column t has number `t`
  abbrev pub statement_rows : ℕ → List SetLine → List SetRow
  statement_rows t [] = []
  statement_rows t (line left relation right ∷ rest) =
      map expression_row (sides relation left right) ++ statement_rows t rest
  statement_rows t (budget limit members ∷ rest) =
      member_rows t members ++ (budget_row t limit members ∷ statement_rows (length members + t) rest)

  -- the set rows in order: the declared bounds of the parameters, then the statements
  abbrev pub set_rows : List SetRow
  set_rows = bound_rows zero m.parameters ++ statement_rows zero m.set_lines

  -- the number of set columns: the parameters, then the columns t
  abbrev pub set_column_count : ℕ
  set_column_count = length m.parameters + lift_count m.set_lines

  -- ---- the set that each set row belongs to

  -- the set of joint parameter `k`
  abbrev pub set_of_parameter : ℕ → ℕ
  set_of_parameter k = k / written_count m

  -- the sets of the rows of the declared bounds, the first parameter having number `k`
  abbrev pub bound_row_sets : ℕ → List Parameter → List ℕ
  bound_row_sets k [] = []
  bound_row_sets k (p ∷ ps) =
      (if_declared (λ l. set_of_parameter k) p.lower ++ if_declared (λ b. set_of_parameter k) p.upper)
      ++ bound_row_sets (suc k) ps

  -- the sets of the rows of the members of a budget on set `S`, two for each
  abbrev pub member_row_sets : ℕ → List Member → List ℕ
  member_row_sets S [] = []
  member_row_sets S (h ∷ hs) = S ∷ (S ∷ member_row_sets S hs)

  -- the sets of the rows of the statements, the first statement having number
  -- `i`: each row belongs to its statement's set
  abbrev pub statement_row_sets : ℕ → List SetLine → List ℕ
  statement_row_sets i [] = []
  statement_row_sets i (line left relation right ∷ rest) =
      map (λ side. line_set m i) (sides relation left right) ++ statement_row_sets (suc i) rest
  statement_row_sets i (budget limit members ∷ rest) =
      member_row_sets (line_set m i) members ++ (line_set m i ∷ statement_row_sets (suc i) rest)

  -- the sets of the set rows, in their order
  abbrev pub set_row_sets : List ℕ
  set_row_sets = bound_row_sets zero m.parameters ++ statement_row_sets zero m.set_lines

  -- the set of set row `i`
  abbrev pub set_of_set_row : ℕ → ℕ
  set_of_set_row i = get_or set_row_sets i 0

  -- the sets of the columns t, the first statement having number `i`: a member's column belongs to its budget's set
  abbrev pub lift_sets : ℕ → List SetLine → List ℕ
  lift_sets i [] = []
  lift_sets i (line left relation right ∷ rest) = lift_sets (suc i) rest
  lift_sets i (budget limit members ∷ rest) = map (λ h. line_set m i) members ++ lift_sets (suc i) rest

  -- the set of set column `c`
  abbrev pub set_of_set_column : ℕ → ℕ
  set_of_set_column c = get_or (tabulate (length m.parameters) set_of_parameter ++ lift_sets zero m.set_lines) c 0

  -- a set row's coefficients, one for each set column
  abbrev pub coefficients : SetRow → List Fraction
  coefficients r = tabulate (length m.parameters) r.on_parameters ++ tabulate (lift_count m.set_lines) r.on_lifts

  -- the number that a set row is multiplied by: the least common denominator of its coefficients and its right side
  abbrev pub row_denominator : SetRow → ℕ
  row_denominator r = denominator (r.limit ∷ coefficients r)

  -- a set row's coefficients in whole numbers
  abbrev pub whole_row : SetRow → List ℤ
  whole_row r = map (whole_at (row_denominator r)) (coefficients r)

  -- a set row's right side in whole numbers
  abbrev pub whole_limit : SetRow → ℤ
  whole_limit r = whole_at (row_denominator r) r.limit

-- the number of set row `i` in set column `c`, 0 past the end
abbrev pub set_number : RobustModel → ℕ → ℕ → ℤ
set_number m i c = slice_index_or (slice_index_or (map (whole_row m) (set_rows m)) i []) c (pos 0)

-- a set row in whole numbers, its right side taken s times, holds in the set columns
pub record WholeRowHolds (m : RobustModel) (s : Fraction) (columns : List Fraction) (r : SetRow) : Type 0 where
  pub at_most : dot (map of_int (whole_row m r)) columns ≤ℚ s *ℚ of_int (whole_limit m r)

-- with some numbers in the columns t the vector makes all set rows hold, their right sides taken s times
pub record IsLifted (m : RobustModel) (s : Fraction) (p : List Fraction) : Type 0 where
  pub lifts : List Fraction
  pub count : length lifts ≡ lift_count m.set_lines
  pub numbers : length p ≡ length m.parameters
  pub rows : Each (WholeRowHolds m s (p ++ lifts)) (set_rows m)
