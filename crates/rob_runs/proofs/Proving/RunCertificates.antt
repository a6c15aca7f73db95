-- The certificate of a finished run proves.
use Rattle.std.proofs.Common.{◌≡◌, ℕ, zero, suc, ◌+◌, ◌<◌, List, [], ◌∷◌, ◌++◌, length, map, length-append, refl, sym, ap, ap₂, ◌∙◌, subst, arith, Bool, true, false}
use Rattle.std.specs.Prelude.{if◌then◌else◌}
use lib.IntN.{pos}
use Rattle.rob_algebra.specs.Fraction.{Fraction, of_int, ◌*ℚ◌, ◌<ℚ◌}
use Rattle.rob_algebra.specs.FractionLaws as Q
use Rattle.rob_algebra.specs.FractionOrderLaws.{mul_pos_ℚ, mul_mono_lt_ℚ}
use Rattle.rob_algebra.specs.FractionLaws.{ℚ_ring}
use Rattle.rob_algebra.specs.FractionOrder.{eq_ℚ}
use Rattle.rob_algebra.specs.Lists.{length-scale}
use Rattle.rob_algebra.specs.Polynomials.{lit, ◌:*◌, v0}
use Rattle.rob_linear.specs.Programs.{auxiliary_of}
use Rattle.rob_linear.specs.Turns.{own_of}
use Rattle.rob_linear.specs.Vectors.{columns_of}
use Rattle.rob_meaning.specs.Certificates.{Cover, Item, Certificate, Status, optimal, infeasible, unbounded}
use Rattle.rob_meaning.specs.Forms.{matrices, form_columns, plan_vector}
use Rattle.rob_meaning.specs.Multipliers.{Covers}
use Rattle.rob_meaning.specs.Places.{0ℚ, 1ℚ, at, Each, tabulate}
use Rattle.rob_meaning.specs.Proves.{amount_at, amounts_of, EachCovered, IsItem, combination, target, Improves, Proves, ProvesAs, ProvesOptimal, ProvesInfeasible, ProvesUnbounded}
use Rattle.rob_meaning.specs.RobustModel.{Sense, minimise, maximise, RobustModel, column_count}
use Rattle.rob_meaning.specs.SetRows.{set_rows}
use Rattle.rob_meaning.specs.UncertaintySet.{Admits}
use Rattle.rob_meaning.specs.Vectors.{scale, zeros}
use Rattle.rob_meaning.specs.WellFormed.{IsModel}
use Rattle.rob_counterpart.specs.MasterItems.{cut_item, cut_items, weighted_kept}
use Rattle.rob_counterpart.specs.ReadCertificates.{plan_read, bound_read, weight_of}
use Rattle.rob_counterpart.specs.Splitting.{difference}
use Rattle.rob_counterpart.proofs.Searching.MasterEndings.{cuts_optimal, cuts_infeasible, cuts_improve}
use Rattle.rob_counterpart.proofs.Pairs.TabulateLemmas.{length-tabulate, tabulate-same}
use Rattle.rob_runs.specs.Cuts.{Cut, IsCut, cuts_of, master_over, wholes}
use Rattle.rob_runs.specs.Searches.{own_at}
use Rattle.rob_runs.specs.Runs.{plan_at, direction_at}
use Rattle.rob_runs.specs.Readings.{IsKept, AreKept, GivesAmounts, run_items, cleared_by, IsOptimalOf, IsInfeasibleOf, IsUnboundedOf, IsReadAs, IsReadOff}
use Rattle.rob_runs.proofs.Rounds.CutLemmas.{are_cuts}
use Rattle.rob_runs.proofs.Proving.FormOrder.{combination-by_form, each_by_form}
use Rattle.rob_runs.proofs.Searching.FoundLemmas.{found_covers, found_covers_whole}
use Rattle.rob_runs.proofs.Clearing.WholeLemmas.{factor_pos, wholes-scale}

tabulate-at : (xs : List Fraction) (n : ℕ) → length xs ≡ n → tabulate n (at xs) ≡ xs
tabulate-at [] zero e = refl
tabulate-at [] (suc n) e = absurd (omega arith)
tabulate-at (x ∷ xs) zero e = absurd (omega arith)
tabulate-at (x ∷ xs) (suc n) e = ap (λ (ys : List Fraction). x ∷ ys) (tabulate-at xs n (omega arith))

scale-append : (c : Fraction) (xs ys : List Fraction) → scale c (xs ++ ys) ≡ scale c xs ++ scale c ys
scale-append c [] ys = refl
scale-append c (x ∷ xs) ys = ap (λ (zs : List Fraction). (c *ℚ x) ∷ zs) (scale-append c xs ys)

pub each_weighted : (P : Item → Type 0) (n : ℕ) (items : ℕ → Item) → ((q : ℕ) → q < n → P (items q))
    → Each P (weighted_kept (tabulate n items))
each_weighted P zero items h = tt
each_weighted P (suc n) items h =
    by (eq_ℚ (items 0).weight 0ℚ) (each_weighted P n (λ q. items (suc q)) (λ q l. h (suc q) (omega arith)))
  where
    by : (b : Bool) → Each P (weighted_kept (tabulate n (λ q. items (suc q))))
        → Each P (if b then weighted_kept (tabulate n (λ q. items (suc q))) else items 0
        ∷ weighted_kept (tabulate n (λ q. items (suc q))))
    by true rest = rest
    by false rest = (h 0 (omega arith), rest)

-- a direction that improves does so as often as it is taken
improves-times : (sense : Sense) (c b : Fraction) → 0ℚ <ℚ c → Improves sense b → Improves sense (c *ℚ b)
improves-times minimise c b h k =
    subst (λ v. c *ℚ b <ℚ v) (Q.ring (c ∷ []) (v0 :* lit (pos 0)) (lit (pos 0)) refl) (mul_mono_lt_ℚ b 0ℚ c k h)
improves-times maximise c b h k = mul_pos_ℚ c b h k

module _ (m : RobustModel) where
  -- ---- sizes
  pub length-vector : (first : Fraction) (plan : List Fraction) (bound : Fraction) → length plan ≡ column_count m
      → length (plan_vector first plan bound) ≡ form_columns m
  length-vector first plan bound e =
      let f : length (plan ++ bound ∷ []) ≡ length plan + 1 = length-append plan (bound ∷ []) in
      omega arith

  pub length-plan : (x : ℕ → Fraction) → length (plan_read m x) ≡ column_count m
  length-plan x = length-tabulate (column_count m) (difference x)

  pub length-plan_at : (x : ℕ → Fraction) → length (plan_at m x) ≡ form_columns m
  length-plan_at x = length-vector 1ℚ (plan_read m x) (bound_read m x) (length-plan x)

  pub length-direction_at : (r : ℕ → Fraction) → length (direction_at m r) ≡ form_columns m
  length-direction_at r = length-vector 0ℚ (plan_read m r) (bound_read m r) (length-plan r)

  -- ---- the items of a run
  module _ (cuts : List Cut) (h : Each (IsCut m) cuts) (weight : ℕ → Fraction) where
    forms_in : Each (λ (item : Item). item.form < length (matrices m)) (cut_items m (cuts_of cuts) weight)
    forms_in = each_weighted (λ (item : Item). item.form < length (matrices m)) (length cuts)
        (cut_item m (cuts_of cuts) weight) (λ q l. (are_cuts m cuts h).forms q l)

    items_sum : combination m (run_items m cuts weight) ≡ combination m (cut_items m (cuts_of cuts) weight)
    items_sum = combination-by_form m (length (matrices m)) (cut_items m (cuts_of cuts) weight) forms_in

    items_in : Each (IsItem m) (cut_items m (cuts_of cuts) weight) → Each (IsItem m) (run_items m cuts weight)
    items_in k = each_by_form (IsItem m) (length (matrices m)) (cut_items m (cuts_of cuts) weight) k

  -- ---- the covers of the last searches
  amounts_given : (i : ℕ) → i < length (matrices m) → (amounts : ℕ → List Fraction) (covers : List Cover)
      → GivesAmounts m amounts covers
      → length (amounts i) ≡ length (set_rows m) → amounts i ≡ amounts_of m covers i
  amounts_given i l amounts covers g e =
      sym (tabulate-at (amounts i) (length (set_rows m)) e)
      ∙ tabulate-same (length (set_rows m)) (at (amounts i)) (λ r. amount_at covers i r) (λ r rl. sym (g i r l rl))

  module _ (model : IsModel m) (z : List Fraction) (size : length z ≡ form_columns m) (amounts : ℕ → List Fraction)
      (kept : AreKept m z amounts) (covers : List Cover) (g : GivesAmounts m amounts covers) where
    -- at the plan, as often as its denominator
    each_covered_at : EachCovered m covers (cleared_by z) z
    each_covered_at i l =
        let k : IsKept m z i (amounts i) = kept i l in
        let c : Covers m i (cleared_by z) z (amounts i) =
        found_covers m model i l z size k.basis k.scenario (amounts i) k.found k.kept in
        subst (λ (v : List Fraction). Covers m i (cleared_by z) z v) (amounts_given i l amounts covers g c.count) c

    -- at the multiple itself, once
    each_covered_whole : EachCovered m covers 1ℚ (scale (cleared_by z) z)
    each_covered_whole i l =
        let k : IsKept m z i (amounts i) = kept i l in
        let c : Covers m i 1ℚ (scale (cleared_by z) z) (amounts i) =
        found_covers_whole m model i l z size k.basis k.scenario (amounts i) k.found k.kept in
        subst (λ (v : List Fraction). Covers m i 1ℚ (scale (cleared_by z) z) v)
        (amounts_given i l amounts covers g c.count) c

  -- ---- the multiple of a direction
  multiple-vector : (k : Fraction) (plan : List Fraction) (bound : Fraction)
      → scale k (plan_vector 0ℚ plan bound) ≡ plan_vector 0ℚ (scale k plan) (k *ℚ bound)
  multiple-vector k plan bound =
      ap₂ (λ x (xs : List Fraction). x ∷ xs) (Q.ring (k ∷ []) (v0 :* lit (pos 0)) (lit (pos 0)) refl)
      (scale-append k plan (bound ∷ []))

  pub direction-wholes : (r : ℕ → Fraction) → map of_int (wholes (direction_at m r))
      ≡ plan_vector 0ℚ (scale (cleared_by (direction_at m r)) (plan_read m r))
      (cleared_by (direction_at m r) *ℚ bound_read m r)
  direction-wholes r =
      wholes-scale (direction_at m r) ∙ multiple-vector (cleared_by (direction_at m r)) (plan_read m r) (bound_read m r)

  -- ---- the three certificates
  module _ (model : IsModel m) (cuts : List Cut) (h : Each (IsCut m) cuts) (basis : List ℕ) (c : Certificate)
      (inside : Admits m c.inside) where
    pub optimal_of_proves : IsOptimalOf m cuts basis c → ProvesOptimal m c
    optimal_of_proves r =
        let z : List Fraction = plan_at m r.x in
        let w : Each (IsItem m) (cut_items m (cuts_of cuts) r.y)
        × (combination m (cut_items m (cuts_of cuts) r.y) ≡ target m.sense (column_count m) (bound_read m r.x)) =
        cuts_optimal m (cuts_of cuts) (are_cuts m cuts h) (own_at (master_over m cuts) basis) r.master.rows
        r.x r.y r.master.ending in
        record {
          inside = inside;
          items = subst (λ (v : List Item). Each (IsItem m) v) (sym r.items) (items_in cuts h r.y w.0);
          scale = subst (λ v. 0ℚ <ℚ v) (sym r.scale_is) (factor_pos (plan_at m r.x));
          columns = ap length r.plan ∙ length-plan r.x;
          covered =
              subst (λ v. EachCovered m c.covers v (plan_vector 1ℚ c.plan c.value)) (sym r.scale_is)
              (subst (λ (v : List Fraction). EachCovered m c.covers (cleared_by (plan_at m r.x)) v)
              (sym (ap₂ (λ (p : List Fraction) b. plan_vector 1ℚ p b) r.plan r.value))
              (each_covered_at model (plan_at m r.x) (length-plan_at r.x) r.amounts r.kept c.covers r.covers));
          sums =
              ap (combination m) r.items ∙ items_sum cuts h r.y ∙ w.1
              ∙ ap (target m.sense (column_count m)) (sym r.value);
        }

    pub infeasible_of_proves : IsInfeasibleOf m cuts basis c → ProvesInfeasible m c
    infeasible_of_proves r =
        let weight : ℕ → Fraction = weight_of (master_over m cuts) r.rows in
        let w : Each (IsItem m) (cut_items m (cuts_of cuts) (weight_of (master_over m cuts) r.rows))
        × (constant : Fraction) × (0ℚ <ℚ constant)
        × (combination m (cut_items m (cuts_of cuts) (weight_of (master_over m cuts) r.rows))
        ≡ plan_vector constant (zeros (column_count m)) 0ℚ) =
        cuts_infeasible m (cuts_of cuts) (are_cuts m cuts h)
        (own_of (auxiliary_of (master_over m cuts)) (columns_of basis)) r.rows r.master.ending in
        record {
          inside = inside;
          items = subst (λ (v : List Item). Each (IsItem m) v) (sym r.items)
              (items_in cuts h (weight_of (master_over m cuts) r.rows) w.0);
          constant = w.1;
          positive = w.2;
          sums = ap (combination m) r.items ∙ items_sum cuts h (weight_of (master_over m cuts) r.rows) ∙ w.3;
        }

    pub unbounded_of_proves : IsUnboundedOf m cuts basis c → ProvesUnbounded m c
    unbounded_of_proves r =
        let k : Fraction = cleared_by (direction_at m r.r) in
        record {
          inside = inside;
          items = subst (λ (v : List Item). Each (IsItem m) v) (sym r.items) tt;
          scale = subst (λ v. 0ℚ <ℚ v) (sym r.scale_is) (factor_pos (plan_at m r.x));
          columns = ap length r.plan ∙ length-plan r.x;
          step_columns =
              ap length r.step ∙ length-scale ℚ_ring (cleared_by (direction_at m r.r)) (plan_read m r.r)
              ∙ length-plan r.r;
          covered =
              subst (λ v. EachCovered m c.covers v (plan_vector 1ℚ c.plan c.value)) (sym r.scale_is)
              (subst (λ (v : List Fraction). EachCovered m c.covers (cleared_by (plan_at m r.x)) v)
              (sym (ap₂ (λ (p : List Fraction) b. plan_vector 1ℚ p b) r.plan r.value))
              (each_covered_at model (plan_at m r.x) (length-plan_at r.x) r.amounts r.kept c.covers r.covers));
          held =
              subst (λ (v : List Fraction). EachCovered m c.holds 1ℚ v)
              (multiple-vector (cleared_by (direction_at m r.r)) (plan_read m r.r) (bound_read m r.r)
              ∙ sym (ap₂ (λ (p : List Fraction) b. plan_vector 0ℚ p b) r.step r.step_bound))
              (each_covered_whole model (direction_at m r.r) (length-direction_at r.r) r.step_amounts
              r.step_kept c.holds r.holds);
          improves =
              subst (Improves m.sense) (sym r.step_bound)
              (improves-times m.sense (cleared_by (direction_at m r.r)) (bound_read m r.r)
              (factor_pos (direction_at m r.r))
              (cuts_improve m (cuts_of cuts) (are_cuts m cuts h) (own_at (master_over m cuts) basis) r.master.rows
              r.column r.x r.r r.master.ending));
        }

    as_proves : (status : Status) → IsReadAs status m cuts basis c → ProvesAs status m c
    as_proves optimal r = optimal_of_proves r
    as_proves infeasible r = infeasible_of_proves r
    as_proves unbounded r = unbounded_of_proves r

    pub read_off_proves : IsReadOff m cuts basis c → Proves m c
    read_off_proves r = as_proves c.status r
