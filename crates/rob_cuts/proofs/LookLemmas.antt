-- Plans and directions of a master, as they are told.
use Rattle.std.proofs.Common.{◌≡◌, ℕ, zero, suc, ◌<◌, ◌≤◌, List, [], ◌∷◌, map, length, refl, sym, ap, ap₂, ◌∙◌, subst, arith, inl, inr, true, false}
use Rattle.std.proofs.lemmas.List.{length-map}
use lib.IntN.{ℤ, nat_abs}
use Rattle.rob_algebra.specs.Fraction.{Fraction, of_int, ◌*ℚ◌}
use Rattle.rob_algebra.specs.Width.{IsWide}
use Rattle.rob_algebra.proofs.Parts.{of_int-parts}
use Rattle.rob_linear.specs.Vectors as V
use Rattle.rob_meaning.specs.Forms.{plan_vector}
use Rattle.rob_meaning.specs.Places.{0ℚ, 1ℚ, at, tabulate}
use Rattle.rob_meaning.specs.RobustModel.{RobustModel, column_count}
use Rattle.rob_meaning.specs.Vectors.{scale}
use Rattle.rob_meaning.proofs.Lists.PlaceLemmas.{at-tabulate}
use Rattle.rob_meaning.proofs.Lists.TabulateLemmas.{tabulate-more}
use Rattle.rob_model.specs.declared.plan.Plan.{Plan}
use Rattle.rob_counterpart.specs.Counterpart.{robust_of}
use Rattle.rob_counterpart.specs.ReadCertificates.{plan_read, bound_read}
use Rattle.rob_counterpart.specs.ReadNumbers.{differences}
use Rattle.rob_counterpart.specs.Splitting.{difference, plus, minus, OneIsZero}
use Rattle.rob_counterpart.proofs.Searching.MasterLemmas.{master_is}
use Rattle.rob_counterpart.proofs.Pairs.TabulateLemmas.{tabulate-same, length-tabulate, scale-tabulate}
use Rattle.rob_counterpart.proofs.Pairs.SplitLemmas.{point_opposite, move_opposite, master_pair}
use Rattle.rob_runs.specs.Cuts.{Cut, cuts_of, master_over, wholes}
use Rattle.rob_runs.specs.Readings.{cleared_by}
use Rattle.rob_runs.specs.Runs.{plan_at, direction_at, MasterIsOptimal, MasterIsUnbounded}
use Rattle.rob_runs.specs.Searches.{own_at}
use Rattle.rob_runs.specs.Spots.{IsWideCleared}
use Rattle.rob_runs.proofs.Clearing.WholeLemmas.{wholes-scale, length-wholes}
use Rattle.rob_elab.specs.Forms.{IsForms}
use Rattle.rob_elab.specs.declared.forms.Forms.{Forms}
use Rattle.rob_cert.specs.declared.ending.Stop.{Stop}
use Rattle.rob_worst.specs.Vectors.{plan_of, step_of}
use Rattle.rob_cuts.specs.declared.cut.Cut.{Cut as Made}
use Rattle.rob_cuts.specs.declared.kept.Kept.{Kept}
use Rattle.rob_cuts.specs.declared.look.PlanLook.TheVariants as of_plan
use Rattle.rob_cuts.specs.declared.look.StepLook.TheVariants as of_step
use Rattle.rob_cuts.specs.declared.scan.Scan.TheVariants as found
use Rattle.rob_cuts.specs.Looks.{IsPlanLook, IsStepLook}
use Rattle.rob_cuts.specs.Scans.{IsScanned, IsScanStopped}
use Rattle.rob_cuts.specs.Steps.{SomeWideProduct}

module _ (m : RobustModel) {N : Type 0} (value : N → Fraction) where
  pub plan_is : (plan : Plan N) (x : ℕ → Fraction) → map value plan.columns ≡ plan_read m x
      → value plan.bound ≡ bound_read m x
      → plan_of value plan ≡ plan_at m x
  plan_is plan x ec eb = ap₂ (λ (columns : List Fraction) (bound : Fraction). plan_vector 1ℚ columns bound) ec eb

  pub step_is : (step : List N) (r : ℕ → Fraction) → map value step ≡ differences (suc (column_count m)) r
      → step_of value step ≡ direction_at m r
  step_is step r e = ap (λ (numbers : List Fraction). 0ℚ ∷ numbers) (e ∙ tabulate-more (column_count m) (difference r))

-- ---- what the scan finds at the plan that was read, and at the direction
module _ (limit : ℕ) (m : RobustModel) {N : Type 0} (value : N → Fraction) (forms : Forms) (f : IsForms m forms) where
  module _ (plan : Plan N) (x : ℕ → Fraction) (ec : map value plan.columns ≡ differences forms.columns x)
      (eb : value plan.bound ≡ difference x forms.columns) where
    columns_read : map value plan.columns ≡ plan_read m x
    columns_read = ec ∙ ap (λ (n : ℕ). differences n x) f.columns

    bound_read_off : value plan.bound ≡ bound_read m x
    bound_read_off = eb ∙ ap (difference x) f.columns

    plan_vector_is : plan_of value plan ≡ plan_at m x
    plan_vector_is = plan_is m value plan x columns_read bound_read_off

    pub plan_broken : (cut : Made) → IsScanned limit m value (plan_of value plan) (found.Broken cut)
        → IsPlanLook limit m value x (of_plan.Broken cut)
    plan_broken cut h = subst (λ (z : List Fraction). IsScanned limit m value z (found.Broken cut)) plan_vector_is h

    pub plan_kept : (kept : Kept N) → IsScanned limit m value (plan_of value plan) (found.Kept kept)
        → IsPlanLook limit m value x (of_plan.Kept plan kept)
    plan_kept kept h = (
      columns_read,
      bound_read_off,
      subst (λ (z : List Fraction). IsScanned limit m value z
          (found.Kept kept)) plan_vector_is h,
    )

    pub plan_stopped : (stop : Stop) → IsScanStopped limit m false (plan_of value plan) stop
        → IsScanStopped limit m false (plan_at m x) stop
    plan_stopped stop h = subst (λ (z : List Fraction). IsScanStopped limit m false z stop) plan_vector_is h

    pub plan_columns_count : length plan.columns ≡ forms.columns
    plan_columns_count = sym (length-map plan.columns value) ∙ ap length ec
        ∙ length-tabulate forms.columns (difference x)

  module _ (step : List N) (r : ℕ → Fraction) (e : map value step ≡ differences (suc forms.columns) r) where
    numbers_read : map value step ≡ differences (suc (column_count m)) r
    numbers_read = e ∙ ap (λ (n : ℕ). differences (suc n) r) f.columns

    step_vector_is : step_of value step ≡ direction_at m r
    step_vector_is = step_is m value step r numbers_read

    pub step_broken : (cut : Made) → IsScanned limit m value (step_of value step) (found.Broken cut)
        → IsStepLook limit m value r (of_step.Broken cut)
    step_broken cut h = subst (λ (z : List Fraction). IsScanned limit m value z (found.Broken cut)) step_vector_is h

    pub step_kept : (numbers : List N) → numbers ≡ step → (kept : Kept N)
        → IsScanned limit m value (step_of value step) (found.Kept kept)
        → IsStepLook limit m value r (of_step.Kept numbers kept)
    step_kept numbers same kept h = (
      ap (map value) same ∙ numbers_read,
      subst (λ (z : List Fraction). IsScanned limit m value z (found.Kept kept)) step_vector_is h,
    )

    pub step_stopped : (stop : Stop) → IsScanStopped limit m true (step_of value step) stop
        → IsScanStopped limit m true (direction_at m r) stop
    step_stopped stop h = subst (λ (z : List Fraction). IsScanStopped limit m true z stop) step_vector_is h

    pub step_count : length step ≡ suc forms.columns
    step_count = sym (length-map step value) ∙ ap length e ∙ length-tabulate (suc forms.columns) (difference r)

-- a direction that was looked at has a number for each decision column, and one for the bound
pub look_count : {N : Type 0} (value : N → Fraction) {m : RobustModel} {forms : Forms} → IsForms m forms
    → (numbers : List N) (r : ℕ → Fraction)
    → map value numbers ≡ differences (suc (column_count m)) r → length numbers ≡ suc forms.columns
look_count value {m = m} f numbers r e =
    sym (length-map numbers value) ∙ ap length e ∙ length-tabulate (suc (column_count m)) (difference r)
    ∙ ap (λ (n : ℕ). suc n) (sym f.columns)

-- ---- of each pair one number is 0
module _ (m : RobustModel) (cuts : List Cut) where
  pub best_pairs : (basis : List ℕ) (x y : ℕ → Fraction) → MasterIsOptimal m cuts basis x y → (j : ℕ)
      → j ≤ column_count m
      → OneIsZero (x (plus j)) (x (minus j))
  best_pairs basis x y o j l =
      point_opposite (master_over m cuts) (plus j) (minus j)
      (master_pair (robust_of m) (cuts_of cuts) (master_over m cuts) (master_is (robust_of m) (cuts_of cuts)) j l)
      (own_at (master_over m cuts) basis) o.rows o.ending.basis x o.ending.point

  pub boundless_pairs : (basis : List ℕ) (column : ℕ) (x r : ℕ → Fraction) → MasterIsUnbounded m cuts basis column x r
      → (j : ℕ) → j ≤ column_count m → OneIsZero (x (plus j)) (x (minus j))
  boundless_pairs basis column x r o j l =
      point_opposite (master_over m cuts) (plus j) (minus j)
      (master_pair (robust_of m) (cuts_of cuts) (master_over m cuts) (master_is (robust_of m) (cuts_of cuts)) j l)
      (own_at (master_over m cuts) basis) o.rows o.ending.basis x o.ending.point

  pub direction_pairs : (basis : List ℕ) (column : ℕ) (x r : ℕ → Fraction) → MasterIsUnbounded m cuts basis column x r
      → (j : ℕ) → j ≤ column_count m → OneIsZero (r (plus j)) (r (minus j))
  direction_pairs basis column x r o j l =
      move_opposite (master_over m cuts) (plus j) (minus j)
      (master_pair (robust_of m) (cuts_of cuts) (master_over m cuts) (master_is (robust_of m) (cuts_of cuts)) j l)
      (own_at (master_over m cuts) basis) o.rows o.ending.basis column r o.ending.ends.improving o.ending.move

-- ---- a direction times its denominator
at-scale : (c : Fraction) (xs : List Fraction) (k : ℕ) → k < length xs → at (scale c xs) k ≡ c *ℚ at xs k
at-scale c [] k l = absurd (omega arith)
at-scale c (x ∷ xs) zero l = refl
at-scale c (x ∷ xs) (suc k) l = at-scale c xs k (omega arith)

at-ints : (zs : List ℤ) (k : ℕ) → k < length zs → at (map of_int zs) k ≡ of_int (V.at zs k)
at-ints [] k l = absurd (omega arith)
at-ints (z ∷ zs) zero l = refl
at-ints (z ∷ zs) (suc k) l = at-ints zs k (omega arith)

-- a product that is wide is a cleared number that is
pub wide_cleared : (limit : ℕ) (z : List Fraction) (k : ℕ) → 1 ≤ limit → k < length z
    → IsWide limit (cleared_by z *ℚ at z k) → IsWideCleared limit z
wide_cleared limit z k one l w =
    let n : length (wholes z) ≡ length z = length-wholes z in
    let e : cleared_by z *ℚ at z k ≡ of_int (V.at (wholes z) k) =
    sym (at-scale (cleared_by z) z k l) ∙ ap (λ (v : List Fraction). at v k) (sym (wholes-scale z))
    ∙ at-ints (wholes z) k (omega arith) in
    inr (k, omega arith, size (V.at (wholes z) k) (subst (IsWide limit) e w))
  where
    size : (v : ℤ) → IsWide limit (of_int v) → limit < nat_abs v
    size v (inl h) = let p : (of_int v).num ≡ v = (of_int-parts v).0 in subst (λ (x : ℤ). limit < nat_abs x) p h
    size v (inr h) = let p : (of_int v).den ≡ 1 = (of_int-parts v).1 in absurd (omega arith)

-- ---- a direction in whole numbers
module _ (m : RobustModel) (r : ℕ → Fraction) (c : Fraction) (numbers : List Fraction)
    (e : numbers ≡ differences (suc (column_count m)) r) where
  number_at_place : (j : ℕ) → j < suc (column_count m) → c *ℚ at numbers j ≡ c *ℚ difference r j
  number_at_place j l = ap (λ v. c *ℚ v) (ap (λ (xs : List Fraction). at xs j) e
      ∙ at-tabulate (suc (column_count m)) (difference r) j l)

  pub step_columns : tabulate (column_count m) (λ j. c *ℚ at numbers j) ≡ scale c (plan_read m r)
  step_columns =
      tabulate-same (column_count m) (λ j. c *ℚ at numbers j) (λ j. c *ℚ difference r j)
      (λ j l. number_at_place j (omega arith))
      ∙ sym (scale-tabulate c (column_count m) (difference r))

  pub step_bound_is : c *ℚ at numbers (column_count m) ≡ c *ℚ bound_read m r
  step_bound_is = number_at_place (column_count m) (omega arith)

  -- a product that is wide is a cleared number of the direction
  pub step_wide : (limit : ℕ) → 1 ≤ limit → c ≡ cleared_by (direction_at m r) → SomeWideProduct limit c numbers
      → IsWideCleared limit (direction_at m r)
  step_wide limit one ec w =
      let z : direction_at m r ≡ 0ℚ ∷ numbers = sym (ap (λ (xs : List Fraction). 0ℚ ∷ xs)
      (e ∙ tabulate-more (column_count m) (difference r))) in
      subst (IsWideCleared limit) (sym z)
      (wide_cleared limit (0ℚ ∷ numbers) (suc w.0) one (let l : w.0 < length numbers = w.1 in omega arith)
      (subst (λ (v : Fraction). IsWide limit (v *ℚ at numbers w.0)) (ec ∙ ap cleared_by z) w.2))
