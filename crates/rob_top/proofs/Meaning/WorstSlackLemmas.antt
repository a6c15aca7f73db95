-- The slack that is printed is that of the form in the scenario that the search
-- finds, and no admitted scenario has less.
use Rattle.std.proofs.Common.{◌≡◌, ◌≢◌, ℕ, pos, ◌<◌, List, [], ◌∷◌, length, refl, sym, ◌∙◌, ap, ap₂, subst, inl, inr, ◌⊎◌}
use Rattle.rob_algebra.proofs.WidthLaws.{fits_not_wide}
use Rattle.rob_algebra.specs.Fraction.{Fraction, neg_ℚ, inv_ℚ, ◌+ℚ◌, ◌*ℚ◌, ◌/ℚ◌, ◌≤ℚ◌}
use Rattle.rob_algebra.specs.FractionOrderLaws as Q
use Rattle.rob_algebra.specs.FractionLaws.{ℚ_ring, mul_inv}
use Rattle.rob_algebra.specs.RingSolver as R
use Rattle.rob_algebra.specs.Polynomials.{lit, minus, ◌:*◌, ◌:+◌, v0, v1, v2}
use Rattle.rob_algebra.specs.Width.{Fits, IsWide}
use Rattle.rob_meaning.proofs.Lists.AbsoluteLemmas.{pos_some}
use Rattle.rob_meaning.proofs.Tables.AtLemmas.{bound_at}
use Rattle.rob_meaning.proofs.Lists.LinearLemmas.{zero_le_one, zero_lt_one}
use Rattle.rob_meaning.specs.Forms.{constant_part, form_at, form_columns, matrices, plan_vector}
use Rattle.rob_meaning.specs.Guarantee.{HasBound}
use Rattle.rob_meaning.specs.Multipliers.{set_limits}
use Rattle.rob_meaning.specs.Places.{0ℚ, 1ℚ}
use Rattle.rob_meaning.specs.RobustModel.{RobustModel}
use Rattle.rob_meaning.specs.UncertaintySet.{Admits}
use Rattle.rob_meaning.specs.Vectors.{dot}
use Rattle.rob_meaning.specs.WellFormed.{IsModel}
use Rattle.rob_runs.proofs.Searching.FoundLemmas.{found_greatest}
use Rattle.rob_runs.proofs.Searching.ToldLemmas.{told_greatest}
use Rattle.rob_runs.proofs.Clearing.WholeLemmas.{factor_pos}
use Rattle.rob_runs.specs.Readings.{cleared_by}
use Rattle.rob_runs.specs.Searches.{FindsScenario}
use Rattle.rob_runs.specs.Spots.{IsWideSlack, slack_of}
use Rattle.rob_runs.specs.Told.{HasNoGreatestAlong, IsGreatestAt, TellsWorst, cleared_plan}
use Rattle.rob_top.specs.Searched.{IsWorstScenario, slack_in}

-- minus a multiple, over its factor
slack_over : (s f : Fraction) → s ≢ 0ℚ → neg_ℚ (s *ℚ f) /ℚ s ≡ neg_ℚ f
slack_over s f some =
    R.from_one ℚ_ring (s ∷ f ∷ inv_ℚ s ∷ []) (minus (v0 :* v1) :* v2) (minus v1) (minus v1)
    (v0 :* v2) (lit (pos 1)) refl
    (mul_inv s some)

-- a lesser form has a greater slack
pub slack_falls : (f g : Fraction) → f ≤ℚ g → neg_ℚ g ≤ℚ neg_ℚ f
slack_falls f g h = Q.le_one (f ∷ g ∷ []) (minus v1) (minus v0) (lit (pos 1)) v0 v1 refl zero_le_one h

-- one at most 0 has one not below 0
pub slack_kept : (f : Fraction) → f ≤ℚ 0ℚ → 0ℚ ≤ℚ neg_ℚ f
slack_kept f h = Q.le_one (f ∷ []) (lit (pos 0)) (minus v0) (lit (pos 1)) v0 (lit (pos 0)) refl zero_le_one h

pub scale_some : (z : List Fraction) (scale : Fraction) → scale ≡ cleared_by z → scale ≢ 0ℚ
scale_some z scale is zero = pos_some (cleared_by z) (factor_pos z) (sym is ∙ zero)

module _ (m : RobustModel) (model : IsModel m) (form : ℕ) (some : form < length (matrices m)) (z : List Fraction)
    (size : length z ≡ form_columns m) where
  -- the slack in the scenario that the search finds
  pub slack_found : (scale peak constant : Fraction) (scenario : List Fraction) (basis : List ℕ)
      (amounts : List Fraction)
      → TellsWorst m form z scale peak constant scenario basis amounts
      → slack_of scale peak constant ≡ slack_in m form z scenario
  slack_found scale peak constant scenario basis amounts t =
      let g : IsGreatestAt m form z scale peak constant scenario amounts =
      told_greatest m model form some z size scale peak constant scenario basis amounts t
      in
      ap (λ x. neg_ℚ x /ℚ scale) g.whole
      ∙ slack_over scale (form_at m form 1ℚ scenario z) (scale_some z scale t.denominator_is)

  pub worst_found_at : (scale peak constant : Fraction) (scenario : List Fraction) (basis : List ℕ)
      (amounts : List Fraction)
      → TellsWorst m form z scale peak constant scenario basis amounts
      → IsWorstScenario m form z scenario (slack_of scale peak constant)
  worst_found_at scale peak constant scenario basis amounts t =
      let g : IsGreatestAt m form z scale peak constant scenario amounts =
      told_greatest m model form some z size scale peak constant scenario basis amounts t
      in
      let is : slack_of scale peak constant ≡ slack_in m form z scenario =
      slack_found scale peak constant scenario basis amounts t in
      record {
        admitted = g.admitted;
        slack_is = is;
        least = λ u a.
            subst (λ x. x ≤ℚ slack_in m form z u) (sym is)
            (slack_falls (form_at m form 1ℚ u z) (form_at m form 1ℚ scenario z)
            (found_greatest m model form some z size basis scenario amounts t.found u a));
      }

  -- ---- one slack
  tells : (basis : List ℕ) (scenario amounts : List Fraction) → FindsScenario m form z basis scenario amounts
      → TellsWorst m form z (cleared_by z) (dot amounts (set_limits m))
      (constant_part m form (cleared_plan z)) scenario basis amounts
  tells basis scenario amounts found =
      record { found = found; denominator_is = refl; peak_is = refl; constant_is = refl }

  no_greater : (basis other : List ℕ) (scenario amounts u more : List Fraction)
      → FindsScenario m form z basis scenario amounts
      → FindsScenario m form z other u more → dot amounts (set_limits m) ≤ℚ dot more (set_limits m)
  no_greater basis other scenario amounts u more found also =
      let g = told_greatest m model form some z size _ _ _ scenario basis amounts
      (tells basis scenario amounts found) in
      let h = told_greatest m model form some z size _ _ _ u other more (tells other u more also) in
      subst (λ x. x ≤ℚ dot more (set_limits m)) g.attained (h.greatest scenario g.admitted)

  -- the greatest value is one, at whichever basis the search ends
  one_peak : (basis other : List ℕ) (scenario amounts u more : List Fraction)
      → FindsScenario m form z basis scenario amounts
      → FindsScenario m form z other u more → dot amounts (set_limits m) ≡ dot more (set_limits m)
  one_peak basis other scenario amounts u more found also =
      Q.le_antisym_ℚ (dot amounts (set_limits m)) (dot more (set_limits m))
      (no_greater basis other scenario amounts u more found also)
      (no_greater other basis u more scenario amounts also found)

  -- so where the numbers of its slack fit, none of a slack is wide
  pub fitting_slack : (limit : ℕ) (scale peak constant : Fraction) (scenario : List Fraction) (basis : List ℕ)
      (amounts : List Fraction)
      → TellsWorst m form z scale peak constant scenario basis amounts → Fits limit (peak +ℚ constant)
      → Fits limit (slack_of scale peak constant) → IsWideSlack limit m form z → ⊥
  fitting_slack limit scale peak constant scenario basis amounts t sum_fits slack_fits wide = by wide.wide
    where
      same : dot wide.amounts (set_limits m) ≡ peak
      same = one_peak wide.basis basis wide.scenario wide.amounts scenario amounts wide.found t.found ∙ sym t.peak_is

      by : IsWide limit (dot wide.amounts (set_limits m) +ℚ constant_part m form (cleared_plan z))
          ⊎ IsWide limit
          (slack_of (cleared_by z) (dot wide.amounts (set_limits m)) (constant_part m form (cleared_plan z))) → ⊥
      by (inl h) =
          fits_not_wide limit (peak +ℚ constant) sum_fits
          (subst (λ x. IsWide limit x) (ap₂ ◌+ℚ◌ same (sym t.constant_is)) h)
      by (inr h) =
          fits_not_wide limit (slack_of scale peak constant) slack_fits
          (subst (λ s. IsWide limit (slack_of s peak constant)) (sym t.denominator_is)
          (subst (λ k. IsWide limit (slack_of (cleared_by z) peak k)) (sym t.constant_is)
          (subst (λ p. IsWide limit (slack_of (cleared_by z) p (constant_part m form (cleared_plan z)))) same h)))

  -- along a ray there is no slack
  pub endless_slack : (limit : ℕ) (ray : List Fraction) → HasNoGreatestAlong m form z ray
      → IsWideSlack limit m form z → ⊥
  endless_slack limit ray along wide =
      let top : Fraction = form_at m form 1ℚ wide.scenario z in
      let u = along.no_greatest (1ℚ +ℚ top) in
      Q.not_lt_ℚ (1ℚ +ℚ top) top
      (Q.le_trans_ℚ (1ℚ +ℚ top) (form_at m form 1ℚ u.0 z) top u.2
      (found_greatest m model form some z size wide.basis wide.scenario wide.amounts wide.found u.0 u.1))
      (Q.lt_from (top ∷ []) v0 (lit (pos 1) :+ v0) (lit (pos 1)) refl zero_lt_one)

-- a plan that has its bound has no slack below 0
pub bound_slack : (m : RobustModel) → IsModel m
    → (form : ℕ) (plan : List Fraction) (tau : Fraction) → HasBound m plan tau
    → (u : List Fraction) → Admits m u → 0ℚ ≤ℚ slack_in m form (plan_vector 1ℚ plan tau) u
bound_slack m model form plan tau bound u a =
    slack_kept (form_at m form 1ℚ u (plan_vector 1ℚ plan tau)) (bound_at m model plan tau bound u a form)
