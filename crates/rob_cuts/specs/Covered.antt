-- Plans that the code holds with their covers.
use Rattle.std.specs.Prelude.{map}
use Rattle.rob_algebra.specs.Fraction.{Fraction}
use Rattle.rob_cert.specs.View.{cover_of}
use Rattle.rob_model.specs.declared.plan.Plan.{Plan}
use Rattle.rob_cuts.specs.declared.kept.Kept.{Kept}
use Rattle.rob_cuts.specs.Certificates.{CoveredPlan}

-- the plan, and what shows that all forms are kept at it
abbrev pub covered_plan : {N : Type 0} → (N → Fraction) → Plan N → Kept N → CoveredPlan
covered_plan value plan kept = record {
  plan = map value plan.columns;
  bound = value plan.bound;
  scale = value kept.scale;
  covers = map (cover_of value) kept.covers;
}
