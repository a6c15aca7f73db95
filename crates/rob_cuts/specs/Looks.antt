-- What a look at a master's plan, or at its direction, finds.
use Rattle.std.specs.Prelude.{◌≡◌, ℕ, suc, ◌+◌, ◌≤◌, map}
use Rattle.rob_algebra.specs.Fraction.{Fraction}
use Rattle.rob_meaning.specs.RobustModel.{RobustModel, column_count}
use Rattle.rob_counterpart.specs.ReadCertificates.{plan_read, bound_read}
use Rattle.rob_counterpart.specs.ReadNumbers.{differences}
use Rattle.rob_counterpart.specs.Splitting.{OneIsZero, plus, minus}
use Rattle.rob_runs.specs.Runs.{plan_at, direction_at}
use Rattle.rob_cuts.specs.declared.look.PlanLook.{PlanLook}
use Rattle.rob_cuts.specs.declared.look.PlanLook.TheVariants as plan
use Rattle.rob_cuts.specs.declared.look.StepLook.{StepLook}
use Rattle.rob_cuts.specs.declared.look.StepLook.TheVariants as step
use Rattle.rob_cuts.specs.declared.scan.Scan.TheVariants as found
use Rattle.rob_cuts.specs.Scans.{IsScanned}

-- the columns are pairs, one for each decision column and one for the bound, and of each pair one number is 0
pub record IsInPairs (decisions columns : ℕ) (x : ℕ → Fraction) : Type 0 where
  pub count : suc decisions + suc decisions ≡ columns
  pub one : (j : ℕ) → j ≤ decisions → OneIsZero (x (plus j)) (x (minus j))

module _ (limit : ℕ) (m : RobustModel) {N : Type 0} (value : N → Fraction) where
  -- the plan of the point x breaks a form, or it is told with what shows that it keeps all
  abbrev pub IsPlanLook : (ℕ → Fraction) → PlanLook N → Type 0
  IsPlanLook x (plan.Broken cut) = IsScanned limit m value (plan_at m x) (found.Broken cut)
  IsPlanLook x (plan.Kept p kept) =
      (map value p.columns ≡ plan_read m x) × (value p.bound ≡ bound_read m x)
      × IsScanned limit m value (plan_at m x) (found.Kept kept)

  -- likewise the direction of the ray r
  abbrev pub IsStepLook : (ℕ → Fraction) → StepLook N → Type 0
  IsStepLook r (step.Broken cut) = IsScanned limit m value (direction_at m r) (found.Broken cut)
  IsStepLook r (step.Kept numbers kept) =
      (map value numbers ≡ differences (suc (column_count m)) r)
      × IsScanned limit m value (direction_at m r) (found.Kept kept)
