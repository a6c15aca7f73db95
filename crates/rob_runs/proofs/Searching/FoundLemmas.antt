-- What a search finds, in terms of the plan or direction z itself: a worst scenario or a ray, the cut that it gives
-- where z breaks the form there, and what covers the form where z keeps it.
use Rattle.std.proofs.Common.{◌≡◌, ℕ, ◌<◌, List, [], ◌∷◌, length, map, refl, sym, ap, ◌∙◌, subst, arith, inl, inr, ◌⊎◌}
use Rattle.std.proofs.lemmas.Int.{ints}
use lib.IntN.{ℤ, pos}
use lib.Signed.{◌<ℤ◌}
use Rattle.rob_algebra.specs.Fraction.{Fraction, of_int, inv_ℚ, ◌+ℚ◌, ◌-ℚ◌, ◌*ℚ◌, ◌/ℚ◌, ◌≤ℚ◌, ◌<ℚ◌}
use Rattle.rob_algebra.specs.FractionLaws as Q
use Rattle.rob_algebra.specs.FractionOrderLaws.{le_refl_ℚ, le_total_ℚ, not_lt_ℚ, le_of_lt_ℚ, pos_sub_ℚ, mul_nonneg_ℚ, le_one, le_trans_ℚ, mul_mono_ℚ, cancel_le_ℚ, lt_irrefl_ℚ}
use Rattle.rob_algebra.specs.FractionLaws.{ℚ_ring}
use Rattle.rob_algebra.specs.Lists.{plus_all, length-scale}
use Rattle.rob_algebra.specs.Polynomials.{lit, ◌:*◌, ◌:+◌, ◌:-◌, v0, v1, v2}
use Rattle.rob_linear.specs.Vectors.{at}
use Rattle.rob_meaning.specs.Clearing.{denominator}
use Rattle.rob_meaning.specs.Forms.{matrices, matrix_at, form_columns, form_at, constant_part, parameter_part}
use Rattle.rob_meaning.specs.Multipliers.{Covers, set_limits}
use Rattle.rob_meaning.specs.Places.{0ℚ, 1ℚ}
use Rattle.rob_meaning.specs.RobustModel.{RobustModel}
use Rattle.rob_meaning.specs.SetConditions.{IsTaken, IsRay, Meets}
use Rattle.rob_meaning.specs.UncertaintySet.{Admits}
use Rattle.rob_meaning.specs.Vectors.{scale, dot}
use Rattle.rob_meaning.specs.WellFormed.{IsModel}
use Rattle.rob_meaning.proofs.Lists.AbsoluteLemmas.{inv_pos, pos_some}
use Rattle.rob_meaning.proofs.Conditions.AdmittedLemmas.{admits_meets}
use Rattle.rob_meaning.proofs.Tables.AtLemmas.{sum_at-plus}
use Rattle.rob_meaning.proofs.Conditions.ConeLemmas.{scale_scale, along_ray, meets_scaled}
use Rattle.rob_meaning.proofs.Proving.CoverLemmas.{form_at-parts}
use Rattle.rob_meaning.proofs.Lists.LinearLemmas.{zero_lt_one, zero_le_one}
use Rattle.rob_counterpart.specs.Counterpart.{robust_of}
use Rattle.rob_counterpart.specs.WorstCases.{whole_plan, IsWorstCase, GrowsAlong}
use Rattle.rob_counterpart.specs.ReadCertificates.{scenario_read}
use Rattle.rob_counterpart.proofs.Searching.WorstCaseLemmas.{search_worst_case, search_grows, worst_covers, covers_scaled}
use Rattle.rob_counterpart.proofs.Sets.ScenarioLemmas.{over_admitted}
use Rattle.rob_counterpart.proofs.Sets.SetLemmas.{search_is}
use Rattle.rob_runs.specs.Cuts.{wholes, Cut, IsCut, cut_at}
use Rattle.rob_runs.specs.Searches.{own_at, search_at, FindsScenario, FindsRay, IsScenarioCut, IsRayCut}
use Rattle.rob_runs.specs.Runs.{KeepsForm, IsWorstCut, CutsOff}
use Rattle.rob_runs.proofs.Clearing.WholeLemmas.{factor_pos, wholes-scale, length-wholes, whole_plan-scale, form_at-scaled_plan, form_at-scaled_one, form_at-scaled_ray, times_pos, over_pos_out, times_nonpos}
use Rattle.rob_runs.specs.Readings.{cleared_by}

module _ (m : RobustModel) (model : IsModel m) (i : ℕ) (some : i < length (matrices m)) (z : List Fraction)
    (size : length z ≡ form_columns m) where
  -- ---- a scenario
  module _ (basis : List ℕ) (scenario amounts : List Fraction)
      (found : FindsScenario m i z basis scenario amounts) where
    -- the worst case at the cleared plan
    pub found_worst : IsWorstCase m i (scale (cleared_by z) z) scenario amounts
    found_worst =
        subst (λ (v : List Fraction). IsWorstCase m i v scenario amounts) (whole_plan-scale m z size)
        (subst (λ (v : List Fraction). IsWorstCase m i (whole_plan m (at (wholes z))) v amounts) (sym found.scenario_is)
        (subst (λ (v : List Fraction). IsWorstCase m i (whole_plan m (at (wholes z))) (scenario_read m found.point) v)
        (sym found.amounts_are)
        (search_worst_case m model i some (at (wholes z)) (own_at (search_at m i z) basis) found.rows found.point
        found.duals found.ending)))

    -- no admitted scenario makes the form greater
    pub found_greatest : (u : List Fraction) → Admits m u → form_at m i 1ℚ u z ≤ℚ form_at m i 1ℚ scenario z
    found_greatest u a =
        cancel_le_ℚ (form_at m i 1ℚ u z) (form_at m i 1ℚ scenario z) (cleared_by z) (factor_pos z)
        (subst (λ v. v ≤ℚ cleared_by z *ℚ form_at m i 1ℚ scenario z) (form_at-scaled_plan m i 1ℚ u (cleared_by z) z)
        (subst (λ v. form_at m i 1ℚ u (scale (cleared_by z) z) ≤ℚ v)
        (form_at-scaled_plan m i 1ℚ scenario (cleared_by z) z)
        (found_worst.worst u a)))

    -- its amounts sum to the peak: no admitted scenario comes above it
    pub found_peak : (u : List Fraction) → Admits m u
        → dot (parameter_part m i (scale (cleared_by z) z)) u ≤ℚ dot amounts (set_limits m)
    found_peak u a =
        let w : List Fraction = scale (cleared_by z) z in
        let h : form_at m i 1ℚ u (scale (cleared_by z) z) ≤ℚ form_at m i 1ℚ scenario (scale (cleared_by z) z) =
        found_worst.worst u a in
        subst (λ v. dot (parameter_part m i (scale (cleared_by z) z)) u ≤ℚ v) (sym found_worst.peak)
        (le_one (constant_part m i (scale (cleared_by z) z) ∷ dot (parameter_part m i (scale (cleared_by z) z)) u
        ∷ dot (parameter_part m i (scale (cleared_by z) z)) scenario ∷ [])
        v1 v2 (lit (pos 1)) (lit (pos 1) :* v0 :+ v1) (lit (pos 1) :* v0 :+ v2) refl zero_le_one
        (subst (λ v. v ≤ℚ 1ℚ *ℚ constant_part m i (scale (cleared_by z) z)
        +ℚ dot (parameter_part m i (scale (cleared_by z) z)) scenario)
        (form_at-parts m i some 1ℚ u (scale (cleared_by z) z))
        (subst (λ v. form_at m i 1ℚ u (scale (cleared_by z) z) ≤ℚ v)
        (form_at-parts m i some 1ℚ scenario (scale (cleared_by z) z)) h)))

    -- the peak and the constant part are the form's whole sum there, times the denominator
    pub found_value : dot amounts (set_limits m) +ℚ constant_part m i (scale (cleared_by z) z)
        ≡ cleared_by z *ℚ form_at m i 1ℚ scenario z
    found_value =
        ap (λ v. v +ℚ constant_part m i (scale (cleared_by z) z)) found_worst.peak
        ∙ Q.ring
        (constant_part m i (scale (cleared_by z) z) ∷ dot (parameter_part m i (scale (cleared_by z) z)) scenario ∷ [])
        (v1 :+ v0) (lit (pos 1) :* v0 :+ v1) refl
        ∙ sym (form_at-parts m i some 1ℚ scenario (scale (cleared_by z) z))
        ∙ form_at-scaled_plan m i 1ℚ scenario (cleared_by z) z

    -- where the form is at most 0 there, it is at most 0 in every scenario, and covered
    pub found_keeps : form_at m i 1ℚ scenario z ≤ℚ 0ℚ → KeepsForm m z i
    found_keeps h u a = le_trans_ℚ (form_at m i 1ℚ u z) (form_at m i 1ℚ scenario z) 0ℚ (found_greatest u a) h

    pub found_covers_whole : form_at m i 1ℚ scenario z ≤ℚ 0ℚ → Covers m i 1ℚ (scale (cleared_by z) z) amounts
    found_covers_whole h =
        worst_covers m i some (scale (cleared_by z) z) scenario amounts found_worst
        (subst (λ v. v ≤ℚ 0ℚ) (sym (form_at-scaled_plan m i 1ℚ scenario (cleared_by z) z))
        (times_nonpos (cleared_by z) (form_at m i 1ℚ scenario z) (factor_pos z) h))

    pub found_covers : form_at m i 1ℚ scenario z ≤ℚ 0ℚ → Covers m i (cleared_by z) z amounts
    found_covers h = covers_scaled m i (cleared_by z) z amounts (found_covers_whole h)

    -- its cut
    scenario_numbers : length scenario ≡ length m.parameters
    scenario_numbers = (admits_meets m model scenario found_worst.admitted).numbers

    pub scenario_cut_at : (c : Cut) → c.form ≡ i → c.base ≡ pos (denominator scenario) → c.vector ≡ wholes scenario
        → cut_at m c z ≡ cleared_by scenario *ℚ form_at m i 1ℚ scenario z
    scenario_cut_at c f b v =
        ap (λ k. form_at m k (of_int c.base) (map of_int c.vector) z) f
        ∙ ap (λ k. form_at m i (of_int k) (map of_int c.vector) z) b
        ∙ ap (λ (k : List ℤ). form_at m i (cleared_by scenario) (map of_int k) z) v
        ∙ ap (λ (k : List Fraction). form_at m i (cleared_by scenario) k z) (wholes-scale scenario)
        ∙ form_at-scaled_one m i (cleared_by scenario) scenario z

    pub scenario_is_cut : (c : Cut) → c.form ≡ i → c.base ≡ pos (denominator scenario)
        → c.vector ≡ wholes scenario → IsCut m c
    scenario_is_cut c f b v = record {
      form_in = subst (λ k. k < length (matrices m)) (sym f) some;
      numbers = ap length v ∙ length-wholes scenario ∙ scenario_numbers;
      taken =
          subst (λ k. IsTaken m (of_int k) (map of_int c.vector)) (sym b)
          (subst (λ (k : List Fraction). IsTaken m (cleared_by scenario) k)
          (sym (ap (map of_int) v ∙ wholes-scale scenario))
          (inl (
            factor_pos scenario,
            subst (λ (k : List Fraction). Admits m k)
                (sym (scale_scale (inv_ℚ (cleared_by scenario)) (cleared_by scenario) scenario
                (Q.ℚ-mul_comm (inv_ℚ (cleared_by scenario)) (cleared_by scenario)
                ∙ Q.mul_inv (cleared_by scenario) (pos_some (cleared_by scenario) (factor_pos scenario)))))
                found_worst.admitted,
          )));
    }

    pub scenario_breaks : (c : Cut) → c.form ≡ i → c.base ≡ pos (denominator scenario) → c.vector ≡ wholes scenario
        → 0ℚ <ℚ form_at m i 1ℚ scenario z → 0ℚ <ℚ cut_at m c z
    scenario_breaks c f b v h =
        subst (λ k. 0ℚ <ℚ k) (sym (scenario_cut_at c f b v))
        (times_pos (cleared_by scenario) (form_at m i 1ℚ scenario z) (factor_pos scenario) h)

    pub scenario_is_worst : (c : Cut) → c.form ≡ i → c.base ≡ pos (denominator scenario)
        → c.vector ≡ wholes scenario → IsWorstCut m z c
    scenario_is_worst c f b v = record {
      of_scenario = λ p u a.
          subst (λ k. of_int c.base *ℚ form_at m k 1ℚ u z ≤ℚ cut_at m c z) (sym f)
          (subst (λ k. k *ℚ form_at m i 1ℚ u z ≤ℚ cut_at m c z) (sym (ap of_int b))
          (subst (λ k. cleared_by scenario *ℚ form_at m i 1ℚ u z ≤ℚ k) (sym (scenario_cut_at c f b v))
          (mul_mono_ℚ (form_at m i 1ℚ u z) (form_at m i 1ℚ scenario z) (cleared_by scenario) (found_greatest u a)
          (le_of_lt_ℚ 0ℚ (cleared_by scenario) (factor_pos scenario)))));
      of_ray = λ e. absurd (lt_irrefl_ℚ 0ℚ (subst (λ k. 0ℚ <ℚ k) (ap of_int (sym b ∙ e)) (factor_pos scenario)));
    }

  -- ---- a ray
  module _ (basis : List ℕ) (column : ℕ) (ray : List Fraction) (found : FindsRay m i z basis column ray) where
    pub found_ray : IsRay m ray × (0ℚ <ℚ form_at m i 0ℚ ray z)
    found_ray =
        let g : GrowsAlong m i (whole_plan m (at (wholes z))) (scenario_read m found.move) =
        search_grows m model i some (at (wholes z)) (own_at (search_at m i z) basis) found.rows column found.point
        found.move found.ending in (
          subst (λ (v : List Fraction). IsRay m v) (sym found.ray_is) g.is_ray,
          over_pos_out (cleared_by z) (form_at m i 0ℚ ray z) (factor_pos z)
              (subst (λ v. 0ℚ <ℚ v) (form_at-scaled_plan m i 0ℚ ray (cleared_by z) z)
              (subst (λ (v : List Fraction). 0ℚ <ℚ form_at m i 0ℚ ray v) (whole_plan-scale m z size)
              (subst (λ (v : List Fraction). 0ℚ <ℚ form_at m i 0ℚ v (whole_plan m (at (wholes z))))
              (sym found.ray_is) g.grows))),
        )

    -- a scenario from which the ray leads on
    base_scenario : Admits m (scenario_read m found.point)
    base_scenario =
        over_admitted m model (search_at m i z) (search_is (robust_of m) i (at (wholes z))).over_set
        (own_at (search_at m i z) basis) found.rows found.point
        found.ending.basis found.ending.ends.feasible found.ending.point

    moved : (s : Fraction) → form_at m i 1ℚ (plus_all ℚ_ring (scenario_read m found.point) (scale s ray)) z
        ≡ form_at m i 1ℚ (scenario_read m found.point) z +ℚ s *ℚ form_at m i 0ℚ ray z
    moved s =
        ap (λ v. form_at m i v (plus_all ℚ_ring (scenario_read m found.point) (scale s ray)) z)
        (Q.ring [] (lit (pos 1)) (lit (pos 1) :+ lit (pos 0)) refl)
        ∙ sum_at-plus (matrix_at (matrices m) i) 1ℚ 0ℚ (scenario_read m found.point) (scale s ray) z
        ((admits_meets m model (scenario_read m found.point) base_scenario).numbers
        ∙ sym (length-scale ℚ_ring s ray ∙ found_ray.0.numbers))
        ∙ ap (λ v. form_at m i 1ℚ (scenario_read m found.point) z +ℚ v) (form_at-scaled_ray m i s ray z)

    -- the form has no greatest value over the set
    pub found_no_greatest : (t : Fraction) → (u : List Fraction) × Admits m u × (t ≤ℚ form_at m i 1ℚ u z)
    found_no_greatest t = by (le_total_ℚ t (form_at m i 1ℚ (scenario_read m found.point) z))
      where
        by : (t ≤ℚ form_at m i 1ℚ (scenario_read m found.point) z)
            ⊎ (form_at m i 1ℚ (scenario_read m found.point) z <ℚ t)
            → (u : List Fraction) × Admits m u × (t ≤ℚ form_at m i 1ℚ u z)
        by (inl h) = (scenario_read m found.point, base_scenario, h)
        by (inr h) =
            let a : Fraction = form_at m i 1ℚ (scenario_read m found.point) z in
            let g : Fraction = form_at m i 0ℚ ray z in
            let s : Fraction = (t -ℚ form_at m i 1ℚ (scenario_read m found.point) z) /ℚ form_at m i 0ℚ ray z in
            let sp : 0ℚ ≤ℚ ((t -ℚ form_at m i 1ℚ (scenario_read m found.point) z) /ℚ form_at m i 0ℚ ray z) =
            mul_nonneg_ℚ (t -ℚ form_at m i 1ℚ (scenario_read m found.point) z) (inv_ℚ (form_at m i 0ℚ ray z))
            (le_of_lt_ℚ 0ℚ (t -ℚ form_at m i 1ℚ (scenario_read m found.point) z)
            (pos_sub_ℚ (form_at m i 1ℚ (scenario_read m found.point) z) t h))
            (le_of_lt_ℚ 0ℚ (inv_ℚ (form_at m i 0ℚ ray z)) (inv_pos (form_at m i 0ℚ ray z) found_ray.1)) in
            let e : form_at m i 1ℚ (plus_all ℚ_ring (scenario_read m found.point) (scale s ray)) z ≡ t =
            moved s
            ∙ ap (λ v. form_at m i 1ℚ (scenario_read m found.point) z +ℚ v)
            (Q.div_mul (t -ℚ form_at m i 1ℚ (scenario_read m found.point) z) (form_at m i 0ℚ ray z)
            (pos_some (form_at m i 0ℚ ray z) found_ray.1))
            ∙ Q.ring (t ∷ form_at m i 1ℚ (scenario_read m found.point) z ∷ []) (v1 :+ (v0 :- v1)) v0 refl in (
              plus_all ℚ_ring (scenario_read m found.point) (scale s ray),
              along_ray m model (scenario_read m found.point) ray s base_scenario found_ray.0 sp,
              subst (λ v. t ≤ℚ v) (sym e) (le_refl_ℚ t),
            )

    -- so some scenario breaks it
    pub ray_not_kept : ¬ (KeepsForm m z i)
    ray_not_kept k =
        let w : (u : List Fraction) × Admits m u × (1ℚ ≤ℚ form_at m i 1ℚ u z) = found_no_greatest 1ℚ in
        not_lt_ℚ 1ℚ 0ℚ (le_trans_ℚ 1ℚ (form_at m i 1ℚ w.0 z) 0ℚ w.2 (k w.0 w.1)) zero_lt_one

    -- its cut
    ray_cut_at : (c : Cut) → c.form ≡ i → c.base ≡ pos 0 → c.vector ≡ wholes ray
        → cut_at m c z ≡ cleared_by ray *ℚ form_at m i 0ℚ ray z
    ray_cut_at c f b v =
        ap (λ k. form_at m k (of_int c.base) (map of_int c.vector) z) f
        ∙ ap (λ k. form_at m i (of_int k) (map of_int c.vector) z) b
        ∙ ap (λ (k : List ℤ). form_at m i 0ℚ (map of_int k) z) v
        ∙ ap (λ (k : List Fraction). form_at m i 0ℚ k z) (wholes-scale ray)
        ∙ form_at-scaled_ray m i (cleared_by ray) ray z

    pub ray_is_cut : (c : Cut) → c.form ≡ i → c.base ≡ pos 0 → c.vector ≡ wholes ray → IsCut m c
    ray_is_cut c f b v = record {
      form_in = subst (λ k. k < length (matrices m)) (sym f) some;
      numbers = ap length v ∙ length-wholes ray ∙ found_ray.0.numbers;
      taken =
          subst (λ k. IsTaken m (of_int k) (map of_int c.vector)) (sym b)
          (subst (λ (k : List Fraction). IsTaken m 0ℚ k) (sym (ap (map of_int) v ∙ wholes-scale ray))
          (inr (
            refl,
            subst (λ k. Meets m k (scale (cleared_by ray) ray))
                (Q.ring (cleared_by ray ∷ []) (v0 :* lit (pos 0)) (lit (pos 0)) refl)
                (meets_scaled m model (cleared_by ray) 0ℚ ray (le_of_lt_ℚ 0ℚ (cleared_by ray) (factor_pos ray))
                found_ray.0),
          )));
    }

    pub ray_breaks : (c : Cut) → c.form ≡ i → c.base ≡ pos 0 → c.vector ≡ wholes ray → 0ℚ <ℚ cut_at m c z
    ray_breaks c f b v =
        subst (λ k. 0ℚ <ℚ k) (sym (ray_cut_at c f b v))
        (times_pos (cleared_by ray) (form_at m i 0ℚ ray z) (factor_pos ray) found_ray.1)

    pub ray_is_worst : (c : Cut) → c.form ≡ i → c.base ≡ pos 0 → c.vector ≡ wholes ray → IsWorstCut m z c
    ray_is_worst c f b v = record {
      of_scenario = λ p. absurd (let h : pos 0 <ℤ c.base = p in let e : c.base ≡ pos 0 = b in omega (arith, ints));
      of_ray = λ e t. subst (λ k. (u : List Fraction) × Admits m u × (t ≤ℚ form_at m k 1ℚ u z))
          (sym f) (found_no_greatest t);
    }

-- ---- a search whose cut breaks cuts off, where the forms before it are kept
module _ (m : RobustModel) (model : IsModel m) (z : List Fraction) (size : length z ≡ form_columns m) (c : Cut)
    (some : c.form < length (matrices m)) (first : (i : ℕ) → i < c.form → KeepsForm m z i) where
  pub scenario_cuts_off : (b : IsScenarioCut m z c) → 0ℚ <ℚ form_at m c.form 1ℚ b.scenario z → CutsOff m z c
  scenario_cuts_off b h = record {
    is_cut = scenario_is_cut m model c.form some z size b.basis b.scenario b.amounts b.found c
        refl b.base_is b.vector_is;
    breaks = scenario_breaks m model c.form some z size b.basis b.scenario b.amounts b.found c refl
        b.base_is b.vector_is h;
    worst = scenario_is_worst m model c.form some z size b.basis b.scenario b.amounts b.found c
        refl b.base_is b.vector_is;
    basic = inl b;
    first = first;
  }

  pub ray_cuts_off : IsRayCut m z c → CutsOff m z c
  ray_cuts_off b = record {
    is_cut = ray_is_cut m model c.form some z size b.basis b.column b.ray b.found c refl b.base_is b.vector_is;
    breaks = ray_breaks m model c.form some z size b.basis b.column b.ray b.found c refl b.base_is b.vector_is;
    worst = ray_is_worst m model c.form some z size b.basis b.column b.ray b.found c refl b.base_is b.vector_is;
    basic = inr b;
    first = first;
  }
