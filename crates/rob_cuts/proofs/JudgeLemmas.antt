-- What the worst case of a form says of it.
use Rattle.std.proofs.Common.{◌≡◌, inl, inr, ℕ, ◌<◌, List, ◌++◌, map, length, refl, sym, ap, ap₂, ◌∙◌, subst, arith}
use Rattle.std.proofs.lemmas.List.{length-map}
use Rattle.rob_algebra.specs.Fraction.{Fraction, ◌+ℚ◌, ◌*ℚ◌, ◌≤ℚ◌, ◌<ℚ◌}
use Rattle.rob_algebra.specs.FractionOrderLaws.{le_total_ℚ, not_lt_ℚ}
use Rattle.rob_meaning.specs.Forms.{matrices, form_columns, form_at}
use Rattle.rob_meaning.specs.Places.{0ℚ, 1ℚ}
use Rattle.rob_meaning.specs.RobustModel.{RobustModel}
use Rattle.rob_meaning.specs.SetRows.{set_rows}
use Rattle.rob_meaning.specs.WellFormed.{IsModel}
use Rattle.rob_counterpart.specs.Splitting.{difference}
use Rattle.rob_counterpart.proofs.Pairs.TabulateLemmas.{length-tabulate}
use Rattle.rob_runs.specs.Cuts.{Cut}
use Rattle.rob_runs.specs.Readings.{IsKept, cleared_by}
use Rattle.rob_runs.specs.Searches.{FindsRay}
use Rattle.rob_runs.specs.Told.{TellsWorst}
use Rattle.rob_runs.proofs.Searching.FoundLemmas.{found_value, scenario_cuts_off, ray_cuts_off}
use Rattle.rob_runs.proofs.Clearing.WholeLemmas.{factor_pos, times_pos, over_pos_out}
use Rattle.std.specs.Prelude.{Result, Ok, Err, IfOk, IfErr, MatchResult}
use Rattle.rob_model.specs.declared.place.Spot.TheVariants.{Clearing}
use Rattle.rob_model.specs.declared.place.Where.TheVariants as of
use Rattle.rob_cert.specs.declared.certificate.Cover.{Cover as TheCover}
use Rattle.rob_cert.specs.declared.ending.Stop.{Stop}
use Rattle.rob_cert.specs.declared.ending.Worst.{Worst}
use Rattle.rob_cert.specs.declared.ending.Worst.TheVariants.{At, Along}
use Rattle.rob_sets.specs.SetForm.{IsSetForm, cleared_row}
use Rattle.rob_sets.specs.declared.set_form.SetForm.{SetForm}
use Rattle.rob_dualize.specs.SetSolving.{IsFewSet}
use Rattle.rob_worst.specs.Finding.{Tells}
use Rattle.rob_cert.specs.View.{cover_of}
use Rattle.rob_cuts.specs.declared.cut.Cut.{Cut as Made}
use Rattle.rob_cuts.specs.declared.scan.Verdict.{Verdict}
use Rattle.rob_cuts.specs.declared.scan.Verdict.TheVariants as verdict
use Rattle.rob_cuts.specs.Items.{covers_of_form}
use Rattle.rob_cuts.specs.Made.{cut_made}
use Rattle.rob_cuts.specs.Rounds.{CutFits, scenario_cut_of, ray_cut_of}
use Rattle.rob_cuts.specs.Scans.{TellsFew, CutsOffFirst, IsWideCut, IsStoppedAt, IsJudged, verdict_of}
use Rattle.rob_cuts.specs.Stops.{StopsWith, IsInClearing}
use Rattle.rob_cuts.proofs.StopLemmas.{stops_also}

-- what isn't at most 0 is over it
over_zero : (x : Fraction) → ((x ≤ℚ 0ℚ) → ⊥) → 0ℚ <ℚ x
over_zero x h = elim (le_total_ℚ x 0ℚ) [ inl l ↦ absurd (h l) | inr l ↦ l ]

under_zero : (x : Fraction) → ((0ℚ <ℚ x) → ⊥) → x ≤ℚ 0ℚ
under_zero x h = elim (le_total_ℚ x 0ℚ) [ inl l ↦ l | inr l ↦ absurd (h l) ]

module _ (m : RobustModel) (model : IsModel m) (i : ℕ) (some : i < length (matrices m)) (z : List Fraction)
    (size : length z ≡ form_columns m) where
  module _ (common peak constant : Fraction) (scenario : List Fraction) (basis : List ℕ) (amounts : List Fraction)
      (t : TellsWorst m i z common peak constant scenario basis amounts) where
    -- the peak and the constant part are the form's sum at the scenario, as often as the denominator says
    sum_is : peak +ℚ constant ≡ cleared_by z *ℚ form_at m i 1ℚ scenario z
    sum_is = ap₂ (λ a b. a +ℚ b) t.peak_is t.constant_is ∙ found_value m model i some z size basis scenario amounts
        t.found

    pub kept_at : (peak +ℚ constant) ≤ℚ 0ℚ → IsKept m z i amounts
    kept_at h = record {
      basis = basis;
      scenario = scenario;
      found = t.found;
      kept = under_zero (form_at m i 1ℚ scenario z)
          (λ l. not_lt_ℚ (peak +ℚ constant) 0ℚ h
          (subst (λ v. 0ℚ <ℚ v) (sym sum_is) (times_pos (cleared_by z) (form_at m i 1ℚ scenario z) (factor_pos z) l)));
    }

    pub broken_at : (((peak +ℚ constant) ≤ℚ 0ℚ) → ⊥) → CutsOffFirst m z (scenario_cut_of i scenario)
    broken_at h first =
        scenario_cuts_off m model z size (scenario_cut_of i scenario) some first
        (record {
          basis = basis;
          scenario = scenario;
          amounts = amounts;
          found = t.found;
          base_is = refl;
          vector_is = refl;
        })
        (over_pos_out (cleared_by z) (form_at m i 1ℚ scenario z) (factor_pos z)
        (subst (λ v. 0ℚ <ℚ v) sum_is (over_zero (peak +ℚ constant) h)))

    pub scenario_count : length scenario ≡ length m.parameters
    scenario_count = ap length t.found.scenario_is ∙ length-tabulate (length m.parameters) (difference t.found.point)

    pub amounts_count : length amounts ≡ length (set_rows m)
    amounts_count = ap length t.found.amounts_are ∙ length-tabulate (length (set_rows m)) t.found.duals

  module _ (basis : List ℕ) (column : ℕ) (ray : List Fraction) (t : FindsRay m i z basis column ray) where
    pub ray_broken_at : CutsOffFirst m z (ray_cut_of i ray)
    ray_broken_at first =
        ray_cuts_off m model z size (ray_cut_of i ray) some first
        (record { basis = basis; column = column; ray = ray; found = t; base_is = refl; vector_is = refl })

    pub ray_count : length ray ≡ length m.parameters
    ray_count = ap length t.ray_is ∙ length-tabulate (length m.parameters) (difference t.move)

-- the amounts that a search tells are as few as the set rows
pub tells_few : {N : Type 0} (value : N → Fraction) (m : RobustModel) (model : IsModel m) (set : SetForm)
    (is : IsSetForm m set) (few : IsFewSet set) (i : ℕ)
    (some : i < length (matrices m)) (z : List Fraction) (size : length z ≡ form_columns m) (w : Worst N)
    → Tells value m i z w → TellsFew w
tells_few value m model set is few i some z size (At scale peak constant scenario basis amounts) t =
    let n : length (map value amounts) ≡ length amounts = length-map amounts value in
    let k : length (map value amounts) ≡ length (set_rows m) = amounts_count m model i some z size _ _ _ _ _ _ t in
    let r : length set.rows ≡ length (set_rows m) = ap length is.rows ∙ length-map (set_rows m) (cleared_row m) in
    omega (arith, few)
tells_few value m model set is few i some z size (Along ray basis column) t = tt

-- the verdict of a cut that cuts z off
pub cut_judged : {N : Type 0} (limit : ℕ) (m : RobustModel) (value : N → Fraction) (f : ℕ) (z : List Fraction)
    (before now : List (TheCover N)) (c : Cut) (n : ℕ)
    → c.form ≡ f → CutsOffFirst m z c → n ≡ length m.parameters → (r : Result Made Stop)
    → IfOk r (λ cut. cut_made cut ≡ c)
    → IfOk r (λ cut. CutFits limit n (cut_made cut)) → IfErr r (StopsWith (IsInClearing limit c))
    → MatchResult (verdict_of r) (IsJudged limit m value f z before now) (IsStoppedAt limit m f z)
cut_judged limit m value f z before now c n ef off en (Ok cut) is fits stop = (
  ap (λ (d : Cut). d.form) is ∙ ef,
  subst (CutsOffFirst m z) (sym is) off,
  subst (λ (k : ℕ). CutFits limit k (cut_made cut)) en fits,
)
cut_judged limit m value f z before now c n ef off en (Err stop) is fits h =
    stops_also (IsInClearing limit c) (IsWideCut limit m f z)
    (λ place w. (c, ef, w.0 ∙ ap (λ (i : ℕ). Clearing (of.Cut i)) ef, off, w.1)) stop h

-- ---- the verdicts
module _ {N : Type 0} (limit : ℕ) (m : RobustModel) (value : N → Fraction) (model : IsModel m) (i : ℕ)
    (some : i < length (matrices m)) (z : List Fraction)
    (size : length z ≡ form_columns m) (before now : List (TheCover N)) where
  module _ (common peak constant : Fraction) (scenario : List Fraction) (basis : List ℕ) (amounts : List Fraction)
      (t : TellsWorst m i z common peak constant scenario basis amounts) where
    pub broken_judged : (numbers : List N) → map value numbers ≡ scenario → (((peak +ℚ constant) ≤ℚ 0ℚ) → ⊥)
        → (r : Result Made Stop)
        → IfOk r (λ cut. cut_made cut ≡ scenario_cut_of i (map value numbers))
        → IfOk r (λ cut. CutFits limit (length numbers) (cut_made cut))
        → IfErr r (StopsWith (IsInClearing limit (scenario_cut_of i (map value numbers))))
        → MatchResult (verdict_of r) (IsJudged limit m value i z before now) (IsStoppedAt limit m i z)
    broken_judged numbers e h r =
        cut_judged limit m value i z before now (scenario_cut_of i (map value numbers)) (length numbers) refl
        (subst (λ (xs : List Fraction). CutsOffFirst m z (scenario_cut_of i xs)) (sym e)
        (broken_at m model i some z size common peak constant scenario basis amounts t h))
        (sym (length-map numbers value) ∙ ap length e ∙ scenario_count m model i some z size common peak constant
        scenario basis amounts t) r

    pub kept_judged : (numbers : List N) → map value numbers ≡ amounts → (peak +ℚ constant) ≤ℚ 0ℚ → (scale : N)
        → value scale ≡ common
        → map (cover_of value) now ≡ map (cover_of value) before ++ covers_of_form i (map value numbers)
        → IsJudged limit m value i z before now (verdict.Kept scale)
    kept_judged numbers e h scale es ec = (
      amounts,
      kept_at m model i some z size common peak constant scenario basis amounts t h,
      ec ∙ ap (λ (xs : List Fraction). map (cover_of value) before ++ covers_of_form i xs) e,
      es ∙ t.denominator_is,
    )

  module _ (basis : List ℕ) (column : ℕ) (ray : List Fraction) (t : FindsRay m i z basis column ray) where
    pub ray_judged : (numbers : List N) → map value numbers ≡ ray → (r : Result Made Stop)
        → IfOk r (λ cut. cut_made cut ≡ ray_cut_of i (map value numbers))
        → IfOk r (λ cut. CutFits limit (length numbers) (cut_made cut))
        → IfErr r (StopsWith (IsInClearing limit (ray_cut_of i (map value numbers))))
        → MatchResult (verdict_of r) (IsJudged limit m value i z before now) (IsStoppedAt limit m i z)
    ray_judged numbers e r =
        cut_judged limit m value i z before now (ray_cut_of i (map value numbers)) (length numbers) refl
        (subst (λ (xs : List Fraction). CutsOffFirst m z (ray_cut_of i xs)) (sym e)
        (ray_broken_at m model i some z size basis column ray t))
        (sym (length-map numbers value) ∙ ap length e ∙ ray_count m model i some z size basis column ray t) r

-- the answer that a verdict is
pub verdict_told : {N : Type 0} (limit : ℕ) (m : RobustModel) (value : N → Fraction) (f : ℕ) (z : List Fraction)
    (before now : List (TheCover N)) (r : Result Made Stop)
    (answer : Result (Verdict N) Stop) → answer ≡ verdict_of r
    → MatchResult (verdict_of r) (IsJudged limit m value f z before now) (IsStoppedAt limit m f z)
    → MatchResult answer (IsJudged limit m value f z before now) (IsStoppedAt limit m f z)
verdict_told {N} limit m value f z before now r answer e h =
    subst (λ (a : Result (Verdict N) Stop). MatchResult a (IsJudged limit m value f z before now)
    (IsStoppedAt limit m f z)) (sym e) h
