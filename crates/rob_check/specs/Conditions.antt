-- The conditions that a certificate is checked by, in order, each with its place, as they are computed within a limit.
-- Where no number on the way is wide they are what it means that the certificate proves.
use Rattle.std.specs.Prelude.{ℕ, zero, suc, ℤ, List, [], ◌∷◌, ◌++◌, map, Bool, true, false, Option, Some, None, if◌then◌else◌}
use Rattle.rob_algebra.specs.Fraction.{Fraction, ◌*ℚ◌}
use Rattle.rob_algebra.specs.FractionOrder.{eq_ℚ}
use Rattle.rob_algebra.specs.Width.{kept}
use Rattle.rob_meaning.specs.Certificates.{Status, optimal, infeasible, unbounded, Item, Certificate}
use Rattle.rob_meaning.specs.Clearing.{fractions}
use Rattle.rob_meaning.specs.Forms.{matrices, matrix_at, plan_vector}
use Rattle.rob_meaning.specs.Places.{0ℚ, 1ℚ, at}
use Rattle.rob_meaning.specs.Proves.{target}
use Rattle.rob_meaning.specs.RobustModel.{RobustModel, Sense, minimise, maximise, column_count}
use Rattle.rob_meaning.specs.SetConditions.{SetCondition, set_conditions}
use Rattle.rob_model.specs.Within.{◌>>=◌, holds_within}
use Rattle.rob_model.specs.declared.place.Place.{Place}
use Rattle.rob_model.specs.declared.place.Place.TheVariants as At
use Rattle.rob_check.specs.LiftedSet.{lifted}
use Rattle.rob_check.specs.Sums.{added_within, dot_within, column, numbers_from, is_nonnegative, is_positive}
use Rattle.rob_check.specs.Verdicts.{Condition, verdict}
use Rattle.rob_check.specs.Covers.{Covering, cover_tests}
use Rattle.rob_check.specs.declared.verdict.Verdict.{Verdict}
use Rattle.rob_check.specs.declared.covering.Covered.TheVariants.{Plan, Step}

module _ (limit : ℕ) (m : RobustModel) where
  -- ---- scenarios and rays
  -- each set condition, taken s times, holds at p; the first of the list has number k
  abbrev pub set_tests : (ℕ → Place) → Fraction → List Fraction → ℕ → List SetCondition → List Condition
  set_tests place s p k [] = []
  set_tests place s p k (c ∷ cs) =
      record { place = place k; holds = holds_within limit m s p c } ∷ set_tests place s p (suc k) cs

  -- the scenario `inside` is admitted
  abbrev pub inside_tests : List Fraction → List Condition
  inside_tests inside = set_tests At.Inside 1ℚ inside zero (set_conditions m)

  -- item i: its weight is above 0, its base is at least 0, and its vector meets the set conditions, taken `base` times
  abbrev pub item_tests : ℕ → Item → List Condition
  item_tests i item =
      record { place = At.Weight i; holds = Some (is_positive item.weight) }
      ∷ record { place = At.Base i; holds = Some (is_nonnegative item.base) }
      ∷ set_tests (At.Item i) item.base item.vector zero (set_conditions m)

  -- the items, the first of which has number i
  abbrev pub items_tests : ℕ → List Item → List Condition
  items_tests i [] = []
  items_tests i (item ∷ items) = item_tests i item ++ items_tests (suc i) items

module _ (limit : ℕ) (forms : List (List (List ℤ))) where
  -- ---- sums of items
  -- an item in column j: its weight times its form there, which is taken at its base and vector
  abbrev pub item_within : ℕ → Item → Option Fraction
  item_within j item =
      dot_within limit (item.base ∷ item.vector) (column j (fractions (matrix_at forms item.form)))
      >>= (λ x. kept limit (item.weight *ℚ x))

  -- the sum of the items in column j
  abbrev pub column_within : List Item → ℕ → Option Fraction
  column_within items j = added_within limit 0ℚ (map (item_within j) items)

-- what the sum in column j must be: for an optimal certificate the entry of the target of its value; for an infeasible
-- one, which has no value, 0 and in the constant a positive number
abbrev pub is_asked : Sense → ℕ → Option Fraction → ℕ → Fraction → Bool
is_asked sense n (Some v) j x = eq_ℚ x (at (target sense n v) j)
is_asked sense n None zero x = is_positive x
is_asked sense n None (suc j) x = eq_ℚ x 0ℚ

module _ (limit : ℕ) (forms : List (List (List ℤ))) (sense : Sense) (n : ℕ) where
  -- the sum in column j is what it must be
  abbrev pub sum_test : Option Fraction → List Item → ℕ → Condition
  sum_test value items j = record {
    place = At.Sum j;
    holds = column_within limit forms items j >>= (λ x. Some (is_asked sense n value j x));
  }

  -- in each decision column, in tau, and last in the constant
  abbrev pub sum_tests : Option Fraction → List Item → List Condition
  sum_tests value items = map (sum_test value items) (numbers_from 1 (suc n)) ++ sum_test value items zero ∷ []

-- ---- certificates
-- the plan with the value as its bound, by the covers
abbrev pub plan_covering : Certificate → Covering
plan_covering c = record {
  covered = Plan;
  scale = c.scale;
  vector = plan_vector 1ℚ c.plan c.value;
  covers = c.covers;
}

-- the direction with its bound, by the holds
abbrev pub step_covering : Certificate → Covering
step_covering c = record {
  covered = Step;
  scale = 1ℚ;
  vector = plan_vector 0ℚ c.step c.step_bound;
  covers = c.holds;
}

-- the scale is above 0
abbrev pub scale_test : Certificate → Condition
scale_test c = record { place = At.Scale; holds = Some (is_positive c.scale) }

-- the direction's bound is below 0 for minimise, above 0 for maximise
abbrev pub improves : Sense → Fraction → Bool
improves minimise d = if is_nonnegative d then false else true
improves maximise d = is_positive d

-- the direction's bound improves
abbrev pub move_test : Sense → Certificate → Condition
move_test sense c = record { place = At.MoveBound; holds = Some (improves sense c.step_bound) }

module _ (limit : ℕ) (m : RobustModel) where
  -- the scenario `inside` meets the set conditions, and each item has its weight, its base and its vector
  abbrev pub base_tests : Certificate → List Condition
  base_tests c = inside_tests limit m c.inside ++ items_tests limit m zero c.items

  -- the items sum to the value in the constant, or to more than 0 where there is none, and to what they must in each
  -- column
  abbrev pub items_sum_tests : Option Fraction → Certificate → List Condition
  items_sum_tests value c = sum_tests limit (matrices m) m.sense (column_count m) value c.items

  -- each form is covered
  abbrev pub covering_tests : Covering → List Condition
  covering_tests g = cover_tests limit (lifted m) g zero (matrices m)

  -- of an optimal certificate: the items sum to its value, and its plan is covered
  abbrev pub optimum_tests : Certificate → List Condition
  optimum_tests c = items_sum_tests (Some c.value) c ++ covering_tests (plan_covering c)

  -- of an unbounded one: its direction improves and is covered; and before that its plan is covered
  abbrev pub move_tests : Certificate → List Condition
  move_tests c = move_test m.sense c ∷ covering_tests (step_covering c)

  -- the plan is covered, and the direction improves and is covered
  abbrev pub ray_tests : Certificate → List Condition
  ray_tests c = covering_tests (plan_covering c) ++ move_tests c

  -- the conditions in order, by what the certificate claims
  abbrev pub conditions_as : Status → Certificate → List Condition
  conditions_as optimal c = scale_test c ∷ (base_tests c ++ optimum_tests c)
  conditions_as infeasible c = base_tests c ++ items_sum_tests None c
  conditions_as unbounded c = scale_test c ∷ (base_tests c ++ ray_tests c)

  -- the verdict on a certificate
  abbrev pub verdict_of : Certificate → Verdict
  verdict_of c = verdict (conditions_as c.status c)
