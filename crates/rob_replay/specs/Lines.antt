-- A line of the table: the values of a plan in one joint scenario, as they are computed: one number after another, and
-- nothing where one of them is wide. Admission comes first, then the adaptive variables, the objective, and the slacks.
use Rattle.std.specs.Prelude.{ℕ, suc, List, [], ◌∷◌, ◌++◌, map, Bool, true, false, Option, Some, None, if◌then◌else◌}
use Rattle.rob_algebra.specs.Fraction.{Fraction, ◌-ℚ◌}
use Rattle.rob_algebra.specs.Width.{kept}
use Rattle.rob_meaning.specs.Places.{0ℚ}
use Rattle.rob_meaning.specs.RobustModel.{RobustModel, Row, AdaptiveVariable, Relation, at_most, at_least, equal}
use Rattle.rob_meaning.specs.WellFormed.{IsInside}
use Rattle.rob_model.specs.Within.{◌>>=◌, admits_within, policy_within, value_within}
use Rattle.rob_replay.specs.Gathering.{all_of}

-- the values of a plan in a joint scenario that is inside
pub record Values : Type 0 where
  pub adaptives : List Fraction
  pub objective : Fraction
  pub slacks : List Fraction

-- a line of the table: outside has no values
pub record Line : Type 0 where
  pub number : ℕ
  pub inside : Bool
  pub values : Values

-- the sides of a row name what exists
abbrev pub HasInside : RobustModel → Row → Type 0
HasInside m r = IsInside m r.left × IsInside m r.right

-- right minus left for <= and =, left minus right for >=
abbrev pub slack_of : Relation → Fraction → Fraction → Fraction
slack_of at_most left right = right -ℚ left
slack_of equal left right = right -ℚ left
slack_of at_least left right = left -ℚ right

-- the value less its lower bound, where it is declared
abbrev pub lower_slacks : ℕ → Option Fraction → Fraction → List (Option Fraction)
lower_slacks limit None x = []
lower_slacks limit (Some l) x = kept limit (x -ℚ l) ∷ []

-- the upper bound less the value, where it is declared
abbrev pub upper_slacks : ℕ → Option Fraction → Fraction → List (Option Fraction)
upper_slacks limit None x = []
upper_slacks limit (Some b) x = kept limit (b -ℚ x) ∷ []

-- those of an adaptive variable of that value
abbrev pub variable_slacks : ℕ → AdaptiveVariable → Fraction → List (Option Fraction)
variable_slacks limit y x = lower_slacks limit y.lower x ++ upper_slacks limit y.upper x

-- those of adaptive variables of these values
abbrev pub bound_slacks : ℕ → List AdaptiveVariable → List Fraction → List (Option Fraction)
bound_slacks limit [] xs = []
bound_slacks limit (y ∷ ys) [] = []
bound_slacks limit (y ∷ ys) (x ∷ xs) = variable_slacks limit y x ++ bound_slacks limit ys xs

module _ (limit : ℕ) (m : RobustModel) (plan scenario : List Fraction) where
  -- the value of each adaptive variable in the default set, the first of the list having number k
  abbrev pub policies_within : ℕ → List AdaptiveVariable → List (Option Fraction)
  policies_within k [] = []
  policies_within k (y ∷ ys) = policy_within limit m plan scenario k ∷ policies_within (suc k) ys

  -- a row's slack: its left side, its right side, their difference
  abbrev pub row_slack : Row → Option Fraction
  row_slack r = value_within limit m plan scenario r.left
      >>= (λ left. value_within limit m plan scenario r.right
      >>= (λ right. kept limit (slack_of r.relation left right)))

  -- the slacks, where the adaptive variables have these values
  abbrev pub slacks_within : List Fraction → List (Option Fraction)
  slacks_within adaptives = map row_slack m.rows ++ bound_slacks limit m.adaptives adaptives

  -- the values in a scenario that is inside
  abbrev pub values_within : Option Values
  values_within =
      all_of (policies_within 0 m.adaptives)
      >>= (λ adaptives. value_within limit m plan scenario m.objective
      >>= (λ objective. all_of (slacks_within adaptives)
      >>= (λ slacks. Some (record { adaptives = adaptives; objective = objective; slacks = slacks }))))

-- the line of a scenario that is inside
abbrev pub inside_within : ℕ → RobustModel → List Fraction → ℕ → List Fraction → Option Line
inside_within limit m plan number scenario =
    values_within limit m plan scenario
    >>= (λ values. Some (record { number = number; inside = true; values = values }))

-- the line of one that is outside has no values
abbrev pub line_outside : ℕ → Line
line_outside number = record {
  number = number;
  inside = false;
  values = record { adaptives = []; objective = 0ℚ; slacks = [] };
}

-- the line of a scenario; outside nothing more is computed
abbrev pub line_within : ℕ → RobustModel → List Fraction → ℕ → List Fraction → Option Line
line_within limit m plan number scenario =
    admits_within limit m scenario
    >>= (λ inside. if inside then inside_within limit m plan number scenario else Some (line_outside number))
