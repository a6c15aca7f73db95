-- A plan or a direction as the vector at which a form is taken: 1 or 0 for the constant, the decision columns, the
-- bound.
use Rattle.std.specs.Prelude.{List, ◌∷◌, map}
use Rattle.rob_algebra.specs.Fraction.{Fraction}
use Rattle.rob_meaning.specs.Forms.{plan_vector}
use Rattle.rob_meaning.specs.Places.{0ℚ, 1ℚ}
use Rattle.rob_model.specs.declared.plan.Plan.{Plan}

module _ {N : Type 0} (value : N → Fraction) where
  -- a plan with its bound
  abbrev pub plan_of : Plan N → List Fraction
  plan_of plan = plan_vector 1ℚ (map value plan.columns) (value plan.bound)

  -- a direction: a number for each decision column, and last its bound
  abbrev pub step_of : List N → List Fraction
  step_of step = 0ℚ ∷ map value step
