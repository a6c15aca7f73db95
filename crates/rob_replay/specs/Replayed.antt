-- What replaying says: the values of a plan in each joint scenario of a file, with no width in them.
use Rattle.std.specs.Prelude.{◌≡◌, ℕ, suc, ◌≤◌, List, [], ◌∷◌, ◌++◌, ◌⊎◌, length, map, true, false, Some}
use Rattle.rob_algebra.specs.Fraction.{Fraction, ◌-ℚ◌, ◌≤ℚ◌}
use Rattle.rob_meaning.specs.Guarantee.{IsNoWorse}
use Rattle.rob_meaning.specs.Places.{0ℚ, Each}
use Rattle.rob_meaning.specs.RobustModel.{RobustModel, Row, AdaptiveVariable, Relation, at_most, at_least, equal}
use Rattle.rob_meaning.specs.SetConditions.{if_declared}
use Rattle.rob_meaning.specs.UncertaintySet.{Admits}
use Rattle.rob_meaning.specs.Values.{value, rule_value}
use Rattle.rob_model.specs.Naming.{parameter_names}
use Rattle.rob_replay.specs.Fields.{numbers_in}
use Rattle.rob_replay.specs.Headers.{header_places, scenario_at}
use Rattle.rob_replay.specs.Lines.{Line, Values, slack_of}
use Rattle.rob_replay.specs.Outcome.{most_records}

-- the slacks of the declared bounds of an adaptive variable of that value: less the lower, and the upper less it
abbrev pub bound_slacks_at : AdaptiveVariable → Fraction → List Fraction
bound_slacks_at y x = if_declared (λ l. x -ℚ l) y.lower ++ if_declared (λ b. b -ℚ x) y.upper

module _ (m : RobustModel) (plan u : List Fraction) where
  -- the values of adaptive variables in the default set, the first of the list having number k
  abbrev pub rule_values : ℕ → List AdaptiveVariable → List Fraction
  rule_values k [] = []
  rule_values k (y ∷ ys) = rule_value m plan u k ∷ rule_values (suc k) ys

  -- the slack of a row
  abbrev pub row_slack_at : Row → Fraction
  row_slack_at r = slack_of r.relation (value m plan u r.left) (value m plan u r.right)

  -- the slacks of the declared bounds of adaptive variables, the first of the list having number k
  abbrev pub all_bound_slacks : ℕ → List AdaptiveVariable → List Fraction
  all_bound_slacks k [] = []
  all_bound_slacks k (y ∷ ys) = bound_slacks_at y (rule_value m plan u k) ++ all_bound_slacks (suc k) ys

  -- the values are those of the plan in the joint scenario
  pub record AreValues (v : Values) : Type 0 where
    pub adaptives : v.adaptives ≡ rule_values 0 m.adaptives
    pub objective : v.objective ≡ value m plan u m.objective
    pub slacks : v.slacks ≡ map row_slack_at m.rows ++ all_bound_slacks 0 m.adaptives

  -- the line is outside, or inside with these values
  abbrev pub IsLine : Line → Type 0
  IsLine line = ((line.inside ≡ true) × Admits m u × AreValues line.values) ⊎ ((line.inside ≡ false) × (Admits m u → ⊥))

module _ (limit : ℕ) (m : RobustModel) (plan : List Fraction) (places : List ℕ) where
  -- the line of a record: for each joint parameter its scenario has the number of the field at the parameter's place
  pub record IsLineOf (number : ℕ) (fields : List (List ℕ)) (line : Line) : Type 0 where
    pub numbers : List Fraction
    pub read : numbers_in limit fields ≡ Some numbers
    pub count : length fields ≡ length places
    pub number_is : line.number ≡ number
    pub is_line : IsLine m plan (scenario_at places numbers) line

  -- a line for each record, in order
  abbrev pub AreLines : ℕ → List (List (List ℕ)) → List Line → Type 0
  AreLines number [] [] = Unit {0}
  AreLines number (r ∷ rs) (l ∷ ls) = IsLineOf number r l × AreLines (suc number) rs ls
  AreLines number [] (l ∷ ls) = ⊥
  AreLines number (r ∷ rs) [] = ⊥

-- the table of the records of a file: a line for each record behind the header, which has a place for each joint
-- parameter's name
pub record IsTable (limit : ℕ) (m : RobustModel) (plan : List Fraction) (rows : List (List (List ℕ)))
    (lines : List Line) : Type 0 where
  pub header : List (List ℕ)
  pub behind : List (List (List ℕ))
  pub places : List ℕ
  pub split : rows ≡ header ∷ behind
  pub named : header_places header (parameter_names m) ≡ Some places
  pub few : length behind ≤ most_records
  pub lines_are : AreLines limit m plan places 2 behind lines

-- ---- a plan that has its bound
-- the slack of an equality is 0, that of another row is not below 0
abbrev pub IsKept : Relation → Fraction → Type 0
IsKept equal x = x ≡ 0ℚ
IsKept at_most x = 0ℚ ≤ℚ x
IsKept at_least x = 0ℚ ≤ℚ x

-- the slacks of rows are kept, and those behind them are not below 0
abbrev pub AreKept : List Row → List Fraction → Type 0
AreKept [] xs = Each (λ x. 0ℚ ≤ℚ x) xs
AreKept (r ∷ rs) [] = ⊥
AreKept (r ∷ rs) (x ∷ xs) = IsKept r.relation x × AreKept rs xs

-- an inside line shows no slack below 0, no slack of an equality but 0, and an objective no worse than the bound
abbrev pub ShowsBound : RobustModel → Fraction → Line → Type 0
ShowsBound m tau line =
    line.inside ≡ true → AreKept m.rows line.values.slacks × IsNoWorse m.sense line.values.objective tau
