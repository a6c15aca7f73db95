-- What the search for a worst case tells means what it should.
use Rattle.std.proofs.Common.{◌≡◌, ℕ, ◌<◌, List, length, sym, ap, ap₂, ◌∙◌, subst}
use Rattle.rob_algebra.specs.Fraction.{Fraction, ◌+ℚ◌, ◌*ℚ◌, ◌≤ℚ◌}
use Rattle.rob_meaning.specs.Forms.{matrices, form_columns, form_at, parameter_part}
use Rattle.rob_meaning.specs.Places.{1ℚ}
use Rattle.rob_meaning.specs.RobustModel.{RobustModel}
use Rattle.rob_meaning.specs.Vectors.{dot}
use Rattle.rob_meaning.specs.WellFormed.{IsModel}
use Rattle.rob_counterpart.specs.WorstCases.{IsWorstCase}
use Rattle.rob_runs.specs.Searches.{FindsRay}
use Rattle.rob_runs.specs.Told.{TellsWorst, cleared_plan, IsGreatestAt, HasNoGreatestAlong}
use Rattle.rob_runs.proofs.Searching.FoundLemmas.{found_worst, found_peak, found_value, found_ray, found_no_greatest}

module _ (m : RobustModel) (model : IsModel m) (i : ℕ) (some : i < length (matrices m)) (z : List Fraction)
    (size : length z ≡ form_columns m) where
  pub told_greatest : (denominator peak constant : Fraction) (scenario : List Fraction) (basis : List ℕ)
      (amounts : List Fraction)
      → TellsWorst m i z denominator peak constant scenario basis amounts
      → IsGreatestAt m i z denominator peak constant scenario amounts
  told_greatest denominator peak constant scenario basis amounts t =
      let w : IsWorstCase m i (cleared_plan z) scenario amounts =
      found_worst m model i some z size basis scenario amounts t.found in
      record {
        admitted = w.admitted;
        attained = sym w.peak ∙ sym t.peak_is;
        greatest = λ u a. subst (λ v. dot (parameter_part m i (cleared_plan z)) u ≤ℚ v) (sym t.peak_is)
            (found_peak m model i some z size basis scenario amounts t.found u a);
        count = w.count;
        nonnegative = w.nonnegative;
        columns = w.columns;
        limits = sym t.peak_is;
        whole =
            ap₂ ◌+ℚ◌ t.peak_is t.constant_is ∙ found_value m model i some z size basis scenario amounts t.found
            ∙ ap (λ v. v *ℚ form_at m i 1ℚ scenario z) (sym t.denominator_is);
      }

  pub told_along : (basis : List ℕ) (column : ℕ) (ray : List Fraction) → FindsRay m i z basis column ray
      → HasNoGreatestAlong m i z ray
  told_along basis column ray f = record {
    is_ray = (found_ray m model i some z size basis column ray f).0;
    grows = (found_ray m model i some z size basis column ray f).1;
    no_greatest = found_no_greatest m model i some z size basis column ray f;
  }
