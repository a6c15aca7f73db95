-- What a scan of the forms at a plan or a direction finds.
use Rattle.std.specs.Prelude.{◌≡◌, ◌⊎◌, ℕ, suc, ◌<◌, Bool, true, false, List, ◌∷◌, ◌++◌, map, length, Result, Ok, Err, ⊤, ◌^◌}
use Rattle.rob_algebra.specs.Fraction.{Fraction}
use Rattle.rob_meaning.specs.RobustModel.{RobustModel}
use Rattle.rob_model.specs.declared.place.Spot.{Spot}
use Rattle.rob_model.specs.declared.place.Spot.TheVariants.{Clearing}
use Rattle.rob_model.specs.declared.place.Where.TheVariants as of
use Rattle.rob_cert.specs.View.{cover_of}
use Rattle.rob_cert.specs.declared.certificate.Cover.{Cover}
use Rattle.rob_cert.specs.declared.ending.Worst.{Worst}
use Rattle.rob_cert.specs.declared.ending.Worst.TheVariants.{At, Along}
use Rattle.rob_cert.specs.declared.ending.Stop.{Stop}
use Rattle.rob_runs.specs.Cuts.{Cut}
use Rattle.rob_runs.specs.Readings.{IsKept, AreKept, covers_up_to, covers_of_amounts, cleared_by}
use Rattle.rob_runs.specs.Runs.{KeepsForm, CutsOff}
use Rattle.rob_runs.specs.Spots.{ComesTo, SomeWide}
use Rattle.rob_worst.specs.Finding.{IsWideAt}
use Rattle.rob_worst.specs.Vectors.{plan_of, step_of}
use Rattle.rob_cuts.specs.declared.cut.Cut.{Cut as Made}
use Rattle.rob_cuts.specs.declared.scan.Target.{Target}
use Rattle.rob_cuts.specs.declared.scan.Target.TheVariants.{Plan, Step}
use Rattle.rob_cuts.specs.declared.scan.Scan.{Scan}
use Rattle.rob_cuts.specs.declared.scan.Scan.TheVariants as found
use Rattle.rob_cuts.specs.declared.scan.Verdict.{Verdict}
use Rattle.rob_cuts.specs.declared.scan.Verdict.TheVariants as verdict
use Rattle.rob_cuts.specs.Items.{covers_of_form}
use Rattle.rob_cuts.specs.Made.{cut_made}
use Rattle.rob_cuts.specs.Rounds.{CutFits}
use Rattle.rob_cuts.specs.Stops.{StopsWith}

-- ---- what is looked at
module _ {N : Type 0} (value : N → Fraction) where
  -- as a vector
  abbrev pub vector_of : Target N → List Fraction
  vector_of (Plan plan) = plan_of value plan.now
  vector_of (Step step) = step_of value step.now

-- whether it is a direction
abbrev pub by_step_of : {N : Type 0} → Target N → Bool
by_step_of (Plan plan) = false
by_step_of (Step step) = true

-- it has a number for each decision column and one for the bound
abbrev pub FitsTarget : {N : Type 0} → ℕ → Target N → Type 0
FitsTarget columns (Plan plan) = length plan.now.columns ≡ columns
FitsTarget columns (Step step) = length step.now ≡ suc columns

-- the amounts are fewer than 2^32
abbrev pub TellsFew : {N : Type 0} → Worst N → Type 0
TellsFew (At scale peak constant scenario basis amounts) = length amounts < 2 ^ 32
TellsFew (Along ray basis column) = ⊤

-- ---- one form

-- the verdict of a cut
abbrev pub verdict_of : {N : Type 0} → Result Made Stop → Result (Verdict N) Stop
verdict_of (Ok cut) = Ok (verdict.Broken cut)
verdict_of (Err stop) = Err stop

-- the cut cuts z off, if all forms before its own are kept
abbrev pub CutsOffFirst : RobustModel → List Fraction → Cut → Type 0
CutsOffFirst m z c = ((h : ℕ) → h < c.form → KeepsForm m z h) → CutsOff m z c

module _ (limit : ℕ) (m : RobustModel) where
  -- a cleared number of form f's cut at z is wide
  abbrev pub IsWideCut : ℕ → List Fraction → Spot → Type 0
  IsWideCut f z place =
      (c : Cut) × (c.form ≡ f) × (place ≡ Clearing (of.Cut f)) × CutsOffFirst m z c × SomeWide limit (c.base ∷ c.vector)

  -- so that the form's worst case is no cut; or memory was refused
  abbrev pub IsStoppedAt : ℕ → List Fraction → Stop → Type 0
  IsStoppedAt f z stop = StopsWith (IsWideCut f z) stop

  -- the form's search, or the clearing of its cut, is wide, all forms before it being kept; or memory was refused
  abbrev pub IsScanStopped : Bool → List Fraction → Stop → Type 0
  IsScanStopped by_step z stop =
      StopsWith (λ place. (f : ℕ) × ComesTo m z f × (IsWideAt limit m by_step f z place ⊎ IsWideCut f z place)) stop

  module _ {N : Type 0} (value : N → Fraction) where
    -- the form is broken at z, at that cut; or it is kept, its covers stand behind the others, and the scale is told
    abbrev pub IsJudged : ℕ → List Fraction → List (Cover N) → List (Cover N) → Verdict N → Type 0
    IsJudged f z before now (verdict.Broken cut) =
        (cut.form ≡ f) × CutsOffFirst m z (cut_made cut) × CutFits limit (length m.parameters) (cut_made cut)
    IsJudged f z before now (verdict.Kept scale) =
        (amounts : List Fraction) × IsKept m z f amounts
        × (map (cover_of value) now ≡ map (cover_of value) before ++ covers_of_form f amounts)
        × (value scale ≡ cleared_by z)

    -- ---- all forms
    -- the first form that is broken is cut off; or none is, with covers that show it
    abbrev pub IsScanned : List Fraction → Scan N → Type 0
    IsScanned z (found.Broken cut) = CutsOff m z (cut_made cut) × CutFits limit (length m.parameters) (cut_made cut)
    IsScanned z (found.Kept kept) =
        (amounts : ℕ → List Fraction) × AreKept m z amounts
        × (map (cover_of value) kept.covers ≡ covers_of_amounts m amounts)
        × (value kept.scale ≡ cleared_by z)

-- the first n forms are kept at z, with these covers; behind the first form the scale is that of z
pub record KeptUpTo (m : RobustModel) {N : Type 0} (value : N → Fraction) (z : List Fraction) (n : ℕ) (scale : N)
    (covers : List (Cover N)) : Type 0 where
  pub amounts : ℕ → List Fraction
  pub kept : (i : ℕ) → i < n → IsKept m z i (amounts i)
  pub covers_are : map (cover_of value) covers ≡ covers_up_to m n amounts
  pub scale_is : 0 < n → value scale ≡ cleared_by z
