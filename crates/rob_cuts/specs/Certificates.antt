-- The certificates of the three endings of a run, by their parts.
use Rattle.std.specs.Prelude.{ℕ, List, [], length}
use Rattle.rob_algebra.specs.Fraction.{Fraction}
use Rattle.rob_meaning.specs.Certificates.{optimal, unbounded, Cover, Item, Certificate}
use Rattle.rob_meaning.specs.Places.{0ℚ}
use Rattle.rob_cert.specs.declared.trace.Round.{Round}
use Rattle.rob_runs.specs.Readings.{by_form}
use Rattle.rob_cuts.specs.Items.{weighted_cuts}
use Rattle.rob_cuts.specs.Rounds.{cuts_told}

-- a plan with its bound, and what covers the forms at it, as often as the scale says
pub record CoveredPlan : Type 0 where
  pub plan : List Fraction
  pub bound : Fraction
  pub scale : Fraction
  pub covers : List Cover

-- optimal: a covered plan and items
abbrev pub optimal_with : List Fraction → CoveredPlan → List Item → Certificate
optimal_with inside p items = record {
  status = optimal;
  value = p.bound;
  scale = p.scale;
  inside = inside;
  plan = p.plan;
  step = [];
  step_bound = 0ℚ;
  covers = p.covers;
  holds = [];
  items = items;
}

-- unbounded: a covered plan, and a direction that is covered with scale 1
abbrev pub unbounded_with : List Fraction → CoveredPlan → List Fraction → Fraction → List Cover → Certificate
unbounded_with inside p step step_bound holds = record {
  status = unbounded;
  value = p.bound;
  scale = p.scale;
  inside = inside;
  plan = p.plan;
  step = step;
  step_bound = step_bound;
  covers = p.covers;
  holds = holds;
  items = [];
}

-- the cuts of the rounds with their weights, by form and then by round
abbrev pub items_told : ℕ → List Round → (ℕ → Fraction) → List Item
items_told forms rounds weight = by_form forms (weighted_cuts (cuts_told rounds) weight (length rounds))
