-- The robust counterpart as one linear program: duality of linear programs, form by form.
-- Ben-Tal, El Ghaoui, Nemirovski, Robust Optimization (2009), chapter 1.
-- Columns: each decision column and tau as a pair; then a multiplier for each form and set row.
-- Rows, for each form: for each set column two rows that equate the multipliers' sum
-- of the set rows with the form's number at the plan, the one with the positive
-- multipliers first; then one row that bounds the multipliers' sum of the right sides.
use Rattle.rob_linear.specs.Vectors.{Vector}
use Rattle.std.specs.Prelude.{◌≡◌, ◌≢◌, ℕ, suc, ◌<◌, ◌≤◌, ◌+◌, ◌*◌, ◌-◌, ◌/◌, ◌%◌, nat_lt, nat_eq, cond, ℤ, pos, neg_ℤ}
use Rattle.rob_linear.specs.Programs.{Program}
use Rattle.rob_counterpart.specs.RobustProgram.{RobustProgram, entry}
use Rattle.rob_counterpart.specs.Splitting.{plus, minus, signed_entry}

-- ---- places

-- the columns of all pairs
abbrev pub pairs : RobustProgram → ℕ
pairs d = suc d.decisions + suc d.decisions

-- the column of form i's multiplier of set row r
abbrev pub multiplier : RobustProgram → ℕ → ℕ → ℕ
multiplier d i r = pairs d + ((i * d.set_rows) + r)

-- the number of a form's rows
abbrev pub block : RobustProgram → ℕ
block d = suc (d.set_columns + d.set_columns)

-- form i's equating row of set column c with the positive multipliers
abbrev pub positive_row : RobustProgram → ℕ → ℕ → ℕ
positive_row d i c = (i * block d) + (c + c)

-- the one with the negative multipliers
abbrev pub negative_row : RobustProgram → ℕ → ℕ → ℕ
negative_row d i c = (i * block d) + suc (c + c)

-- form i's row of the right sides and the constant part
abbrev pub constant_row : RobustProgram → ℕ → ℕ
constant_row d i = (i * block d) + (d.set_columns + d.set_columns)

-- ---- the program, by its places

-- row t, of form i: its numbers at the plan's columns, at form i's multipliers, and on the right
pub record RowIs (d : RobustProgram) (P : Program) (t i : ℕ) (plan own : Vector) (right : ℤ) : Type 0 where
  pub at_plus : (j : ℕ) → j ≤ d.decisions → P.a t (plus j) ≡ plan j
  pub at_minus : (j : ℕ) → j ≤ d.decisions → P.a t (minus j) ≡ neg_ℤ (plan j)
  pub at_own : (r : ℕ) → r < d.set_rows → P.a t (multiplier d i r) ≡ own r
  pub at_others : (h r : ℕ) → h < d.forms → h ≢ i → r < d.set_rows → P.a t (multiplier d h r) ≡ pos 0
  pub at_right : P.b t ≡ right

-- tau counts as the sense says, and no other column of the plan counts
pub record HasTauCost (d : RobustProgram) (P : Program) : Type 0 where
  pub cost_decisions : (j : ℕ) → j < d.decisions → (P.c (plus j) ≡ pos 0) × (P.c (minus j) ≡ pos 0)
  pub cost_tau : (P.c (plus d.decisions) ≡ d.sense) × (P.c (minus d.decisions) ≡ neg_ℤ d.sense)

-- P is the counterpart of d
pub record IsReform (d : RobustProgram) (P : Program) : Type 0 where
  pub height : P.m ≡ d.forms * block d
  pub width : P.n ≡ pairs d + (d.forms * d.set_rows)
  pub positive : (i c : ℕ) → i < d.forms → c < d.set_columns
      → RowIs d P (positive_row d i c) i (λ j. neg_ℤ (entry d i c (suc j))) (λ r. d.left r c) (entry d i c 0)
  pub negative : (i c : ℕ) → i < d.forms → c < d.set_columns
      → RowIs d P (negative_row d i c) i (λ j. entry d i c (suc j)) (λ r. neg_ℤ (d.left r c)) (neg_ℤ (entry d i c 0))
  pub constant : (i : ℕ) → i < d.forms
      → RowIs d P (constant_row d i) i (λ j. d.form i 0 (suc j)) d.right (neg_ℤ (d.form i 0 0))
  pub cost : HasTauCost d P
  pub open cost use *
  pub cost_multipliers : (i r : ℕ) → i < d.forms → r < d.set_rows → P.c (multiplier d i r) ≡ pos 0

-- ---- the program, as a function

-- form i's row p: its number at column j of the plan
abbrev pub plan_entry : RobustProgram → ℕ → ℕ → ℕ → ℤ
plan_entry d i p j =
    cond (nat_lt p (d.set_columns + d.set_columns)) (signed_entry p (neg_ℤ (entry d i (p / 2) (suc j))))
    (d.form i 0 (suc j))

-- its number at the form's multiplier of set row r
abbrev pub multiplier_entry : RobustProgram → ℕ → ℕ → ℤ
multiplier_entry d p r = cond (nat_lt p (d.set_columns + d.set_columns)) (signed_entry p (d.left r (p / 2))) (d.right r)

-- its right side
abbrev pub right_entry : RobustProgram → ℕ → ℕ → ℤ
right_entry d i p =
    cond (nat_lt p (d.set_columns + d.set_columns)) (signed_entry p (entry d i (p / 2) 0)) (neg_ℤ (d.form i 0 0))

-- its number at column k of the program
abbrev pub row_entry : RobustProgram → ℕ → ℕ → ℕ → ℤ
row_entry d i p k =
    cond (nat_lt k (pairs d)) (signed_entry k (plan_entry d i p (k / 2)))
    (cond (nat_eq ((k - pairs d) / d.set_rows) i) (multiplier_entry d p ((k - pairs d) % d.set_rows)) (pos 0))

-- the sense at tau's pair, and 0 elsewhere
abbrev pub tau_cost : RobustProgram → ℕ → ℤ
tau_cost d k = cond (nat_eq (k / 2) d.decisions) (signed_entry k d.sense) (pos 0)

-- the counterpart of d
abbrev pub reform : RobustProgram → Program
reform d = record {
  m = d.forms * block d;
  n = pairs d + (d.forms * d.set_rows);
  a = λ t k. row_entry d (t / block d) (t % block d) k;
  b = λ t. right_entry d (t / block d) (t % block d);
  c = tau_cost d;
}
