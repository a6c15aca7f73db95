-- Certificates that are read off the endings of a model's counterpart: numbers of a basic solution, of a move, of dual
-- values or of Farkas weights. The columns of a pair, and a pair of equating
-- rows, count as the difference of their numbers.
use Rattle.rob_linear.specs.Vectors.{Matrix, Columns}
use Rattle.std.specs.Prelude.{◌≡◌, ℕ, ◌<◌, List, [], length}
use Rattle.rob_algebra.specs.Fraction.{Fraction, of_int}
use Rattle.rob_meaning.specs.Places.{1ℚ, tabulate}
use Rattle.rob_meaning.specs.RobustModel.{RobustModel, column_count}
use Rattle.rob_meaning.specs.SetRows.{set_rows}
use Rattle.rob_meaning.specs.Forms.{matrices}
use Rattle.rob_meaning.specs.Certificates.{optimal, infeasible, unbounded, Cover, Item, Certificate}
use Rattle.rob_meaning.specs.Proves.{amount_at}
use Rattle.rob_linear.specs.Programs.{Program}
use Rattle.rob_counterpart.specs.Splitting.{difference}
use Rattle.rob_counterpart.specs.Reform.{multiplier}
use Rattle.rob_counterpart.specs.Endings.{slack_entries, OptimalEnding, InfeasibleEnding, UnboundedEnding}
use Rattle.rob_counterpart.specs.Counterpart.{robust_of, set_program, counterpart}
use Rattle.rob_counterpart.specs.ReadNumbers.{differences, covers_to, items_to, optimal_from, infeasible_from, unbounded_from}

-- ---- numbers

-- a scenario: the parameters of a point of the set's program
abbrev pub scenario_read : RobustModel → (ℕ → Fraction) → List Fraction
scenario_read m x = differences (length m.parameters) x

-- a plan: the decision columns of a point of the counterpart, or of a move
abbrev pub plan_read : RobustModel → (ℕ → Fraction) → List Fraction
plan_read m x = differences (column_count m) x

-- its bound: tau
abbrev pub bound_read : RobustModel → (ℕ → Fraction) → Fraction
bound_read m x = difference x (column_count m)

-- form i's amount of set row r: its multiplier
abbrev pub amount_read : RobustModel → (ℕ → Fraction) → ℕ → ℕ → Fraction
amount_read m x i r = x (multiplier (robust_of m) i r)

-- Farkas weights as fractions
abbrev pub weight_of : Program → Matrix → ℕ → Fraction
weight_of P rows t = of_int (slack_entries P rows t)

-- the weights of the set rows
abbrev pub weights_read : RobustModel → Matrix → List Fraction
weights_read m rows = tabulate (length (set_rows m)) (weight_of (set_program m) rows)

-- the items of all forms, in order, those that are 0 left out
abbrev pub items_of : RobustModel → (ℕ → Fraction) → List Item
items_of m y = items_to (robust_of m) (length (matrices m)) y

-- the covers of all forms, in order, those that are 0 left out
abbrev pub covers_of : RobustModel → (ℕ → Fraction) → List Cover
covers_of m x = covers_to (robust_of m) (length (matrices m)) x

-- a list of covers gives each form and set row its multiplier
abbrev pub HasAmounts : RobustModel → (ℕ → Fraction) → List Cover → Type 0
HasAmounts m x covers =
    (i r : ℕ) → i < length (matrices m) → r < length (set_rows m) → amount_at covers i r ≡ amount_read m x i r

-- ---- the three certificates

-- read off an optimal basis: its basic solution x and its dual values y
pub record IsReadOptimal (m : RobustModel) (own : Columns) (rows : Matrix) (x y : ℕ → Fraction)
    (c : Certificate) : Type 0 where
  pub ending : OptimalEnding (counterpart m) own rows x y
  pub status : c.status ≡ optimal
  pub scale : c.scale ≡ 1ℚ
  pub plan : c.plan ≡ plan_read m x
  pub value : c.value ≡ bound_read m x
  pub covers : HasAmounts m x c.covers
  pub items : c.items ≡ items_of m y

-- read off an infeasible basis: its Farkas weights
pub record IsReadInfeasible (m : RobustModel) (own : Columns) (rows : Matrix) (c : Certificate) : Type 0 where
  pub ending : InfeasibleEnding (counterpart m) own rows
  pub status : c.status ≡ infeasible
  pub scale : c.scale ≡ 1ℚ
  pub items : c.items ≡ items_of m (weight_of (counterpart m) rows)

-- read off an unbounded basis: its basic solution x, and its move r in the column
pub record IsReadUnbounded (m : RobustModel) (own : Columns) (rows : Matrix) (column : ℕ) (x r : ℕ → Fraction)
    (c : Certificate) : Type 0 where
  pub ending : UnboundedEnding (counterpart m) own rows column x r
  pub status : c.status ≡ unbounded
  pub scale : c.scale ≡ 1ℚ
  pub plan : c.plan ≡ plan_read m x
  pub value : c.value ≡ bound_read m x
  pub covers : HasAmounts m x c.covers
  pub step : c.step ≡ plan_read m r
  pub step_bound : c.step_bound ≡ bound_read m r
  pub holds : HasAmounts m r c.holds
  pub items : c.items ≡ []

-- ---- the same as functions

-- the certificate of an optimal ending
abbrev pub optimal_read : RobustModel → List Fraction → (x y : ℕ → Fraction) → Certificate
optimal_read m inside x y = optimal_from (robust_of m) inside x y

-- of an infeasible one
abbrev pub infeasible_read : RobustModel → List Fraction → Matrix → Certificate
infeasible_read m inside rows = infeasible_from (robust_of m) inside (weight_of (counterpart m) rows)

-- of an unbounded one
abbrev pub unbounded_read : RobustModel → List Fraction → (x r : ℕ → Fraction) → Certificate
unbounded_read m inside x r = unbounded_from (robust_of m) inside x r
