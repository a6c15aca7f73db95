-- Each certificate that is read off an ending of a model's counterpart proves;
-- and the functions give such certificates.
use Rattle.std.proofs.Common.{◌≡◌, ℕ, ◌<◌, ◌≤◌, List, length, refl, sym, ap, ap₂, ◌∙◌, subst, arith}
use Rattle.std.proofs.lemmas.Int.{ints}
use lib.IntN.{ℤ, pos, ◌*ℤ◌}
use lib.Signed.{◌<ℤ◌}
use Rattle.rob_algebra.specs.Fraction.{Fraction, ◌-ℚ◌, ◌<ℚ◌}
use Rattle.rob_meaning.specs.Places.{0ℚ, 1ℚ, Each, tabulate}
use Rattle.rob_meaning.specs.Vectors.{zeros}
use Rattle.rob_meaning.specs.RobustModel.{RobustModel, column_count}
use Rattle.rob_meaning.specs.Forms.{matrices, plan_vector}
use Rattle.rob_meaning.specs.WellFormed.{IsModel}
use Rattle.rob_meaning.specs.UncertaintySet.{Admits}
use Rattle.rob_meaning.specs.Certificates.{Cover, Item, Certificate}
use Rattle.rob_meaning.specs.Proves.{EachCovered, IsItem, combination, target, Improves, ProvesOptimal, ProvesInfeasible, ProvesUnbounded}
use Rattle.rob_meaning.proofs.Lists.LinearLemmas.{zero_lt_one}
use Rattle.rob_counterpart.specs.RobustProgram.{RobustProgram}
use Rattle.rob_counterpart.specs.Counterpart.{sign_of, robust_of, counterpart}
use Rattle.rob_counterpart.specs.ReadCertificates.{plan_read, bound_read, items_of, weight_of, HasAmounts, IsReadOptimal, IsReadInfeasible, IsReadUnbounded, optimal_read, infeasible_read, unbounded_read}
use Rattle.rob_counterpart.specs.ReadNumbers.{items_kept, item_at}
use Rattle.rob_counterpart.proofs.Proving.WholeCertificates.{BoundsForms, items_entry, ItemsSum, ShowsOptimal, ShowsInfeasible, ShowsUnbounded}
use Rattle.rob_counterpart.proofs.Pairs.QuotientLemmas.{over, over-zero, over-one, over-self, over-sub, over_pos}
use Rattle.rob_counterpart.proofs.Pairs.TabulateLemmas.{length-tabulate, tabulate-same}
use Rattle.rob_counterpart.proofs.Proving.CoverLemmas.{HasAmountsOver, each_covered}
use Rattle.rob_counterpart.proofs.Proving.ItemLemmas.{item_over, combination-over, items_over}
use Rattle.rob_counterpart.proofs.Proving.EndingScales.{IsOver, ScaledOptimal, ScaledUnbounded, optimal_scaled, unbounded_scaled, difference-over}
use Rattle.rob_counterpart.proofs.Proving.TargetLemmas.{ends-over, target-over, improves-over}
use Rattle.rob_counterpart.proofs.Pairs.PairLaw.{plan_in}
use Rattle.rob_counterpart.proofs.Positions.ReformSums.{positive_in, negative_in, constant_in, multiplier_in}
use Rattle.rob_counterpart.specs.Splitting.{difference}
use Rattle.rob_counterpart.specs.Reform.{multiplier, positive_row, negative_row, constant_row}
use Rattle.rob_linear.specs.Vectors.{Matrix, Columns}
use Rattle.rob_linear.specs.Programs.{Program}
use Rattle.rob_counterpart.proofs.Proving.KeptLemmas.{covers_have_amounts}
use Rattle.rob_counterpart.proofs.Positions.ReformPlaces.{reform_is}
use Rattle.rob_counterpart.proofs.Proving.EndingLemmas.{optimal_proves, infeasible_proves, unbounded_proves}
use Rattle.rob_counterpart.proofs.Proving.ScaledEndings.{pair, plan_of}
use Rattle.rob_counterpart.specs.Endings.{slack_entries, objective_entry, OptimalEnding, InfeasibleEnding, UnboundedEnding}
use Rattle.rob_counterpart.proofs.Proving.WholeCertificates.{multipliers_of, base_of, vector_of}

module _ (m : RobustModel) where
  -- the items of whole numbers over t, one for each form, without those that are all 0
  abbrev items_over_of : ℤ → (ℕ → ℤ) → List Item
  items_over_of t y =
      items_kept (tabulate (length (matrices m))
      (λ i. item_over m t i (base_of (robust_of m) y i) (vector_of (robust_of m) y i)))

  -- items that sum to these numbers in whole numbers, over t
  items-total : (t : ℤ) (y : ℕ → ℤ) (tau total : ℤ) → pos 0 <ℤ t
      → ItemsSum (robust_of m) (base_of (robust_of m) y) (vector_of (robust_of m) y) tau total
      → combination m (items_over_of t y) ≡ plan_vector (over total t) (zeros (column_count m)) (over tau t)
  items-total t y tau total tp it =
      combination-over m t tp (length (matrices m)) (λ i. i) (base_of (robust_of m) y)
      (vector_of (robust_of m) y) (λ i l. l)
      ∙ ends-over (column_count m) (items_entry (robust_of m) (base_of (robust_of m) y) (vector_of (robust_of m) y)) t
      tau total it.on_constant it.decisions it.on_tau

  items-in : (t : ℤ) (y : ℕ → ℤ) (tau total : ℤ) → pos 0 <ℤ t → IsModel m
      → ItemsSum (robust_of m) (base_of (robust_of m) y) (vector_of (robust_of m) y) tau total
      → Each (IsItem m) (items_over_of t y)
  items-in t y tau total tp model it =
      items_over m t tp model (length (matrices m)) (λ i. i) (base_of (robust_of m) y)
      (vector_of (robust_of m) y) it.taken

  -- a plan, or a direction, whose parts are these numbers over a scale is covered
  covered_by : (first s : ℤ) (x : ℕ → ℤ) (covers : List Cover) (scale head : Fraction)
      (plan : List Fraction) (bound : Fraction)
      → pos 0 <ℤ s
      → BoundsForms (robust_of m) (plan_of first x) (λ i. multipliers_of (robust_of m) i x)
      → HasAmountsOver m s x covers
      → scale ≡ 1ℚ → head ≡ over first s → plan ≡ tabulate (column_count m) (λ j. over (pair x j) s)
      → bound ≡ over (pair x (column_count m)) s
      → EachCovered m covers scale (plan_vector head plan bound)
  covered_by first s x covers scale head plan bound sp bounds has es eh ep eb =
      subst (λ v. EachCovered m covers v (plan_vector head plan bound)) (sym es)
      (subst (λ v. EachCovered m covers 1ℚ (plan_vector v plan bound)) (sym eh)
      (subst (λ (v : List Fraction). EachCovered m covers 1ℚ (plan_vector (over first s) v bound)) (sym ep)
      (subst (λ v.
      EachCovered m covers 1ℚ (plan_vector (over first s) (tabulate (column_count m) (λ j. over (pair x j) s)) v))
      (sym eb) (each_covered m first s x covers sp bounds has))))

  -- ---- what is read, over the scale
  abbrev d : RobustProgram
  d = robust_of m

  abbrev P : Program
  P = counterpart m

  module _ (x : ℕ → Fraction) (s : ℤ) (z : ℕ → ℤ) (point : IsOver (counterpart m) x s z) where
    at-difference : (j : ℕ) → j ≤ column_count m → difference x j ≡ over (pair z j) s
    at-difference j l =
        difference-over P x s z point j (plan_in (robust_of m) (counterpart m) (reform_is (robust_of m)) j l).1

    plan-over : plan_read m x ≡ tabulate (column_count m) (λ j. over (pair z j) s)
    plan-over =
        tabulate-same (column_count m) (difference x) (λ j. over (pair z j) s) (λ j l. at-difference j (omega arith))

    bound-over : bound_read m x ≡ over (pair z (column_count m)) s
    bound-over = at-difference (column_count m) (omega arith)

    amounts-over : (covers : List Cover) → HasAmounts m x covers → HasAmountsOver m s z covers
    amounts-over covers has i r il rl =
        let h : multiplier d i r < P.n = multiplier_in d i r il rl in
        has i r il rl ∙ point (multiplier d i r) (omega arith)

  -- the items of dual values or weights over t
  items-read : (y : ℕ → Fraction) (t : ℤ) (w : ℕ → ℤ) → ((q : ℕ) → q < P.m → y q ≡ over (w q) t)
      → items_of m y ≡ items_over_of t w
  items-read y t w e =
      ap items_kept
      (tabulate-same (length (matrices m)) (item_at (robust_of m) y)
      (λ i. item_over m t i (base_of d w i) (vector_of d w i)) (λ i l.
      ap₂ (λ b (v : List Fraction). record { form = i; weight = 1ℚ; base = b; vector = v })
      (e (constant_row d i) (constant_in d i l))
      (tabulate-same (length m.parameters) (λ c. y (negative_row d i c) -ℚ y (positive_row d i c))
      (λ c. over (vector_of d w i c) t) (λ c cl.
      ap₂ ◌-ℚ◌ (e (negative_row d i c) (negative_in d i c l (omega arith)))
      (e (positive_row d i c) (positive_in d i c l (omega arith)))
      ∙ sym (over-sub (w (negative_row d i c)) (w (positive_row d i c)) t)))))

  length_read : (x : ℕ → Fraction) (plan : List Fraction) → plan ≡ plan_read m x → length plan ≡ column_count m
  length_read x plan e = ap length e ∙ length-tabulate (column_count m) (difference x)

  module _ (model : IsModel m) (own : Columns) (rows : Matrix) (c : Certificate) (inside : Admits m c.inside) where
    abbrev o : ℤ
    o = objective_entry P rows

    abbrev duals : ℕ → ℤ
    duals = slack_entries P rows

    pub read_optimal_proves : (x y : ℕ → Fraction) → IsReadOptimal m own rows x y c → ProvesOptimal m c
    read_optimal_proves x y r = by (optimal_scaled P own rows x y r.ending)
      where
        by : ScaledOptimal P own rows x y → ProvesOptimal m c
        by q =
            shown (optimal_proves d P own rows q.s q.z (reform_is d) q.scaled.basis q.scaled.ends q.scaled.point)
          where
            items : c.items ≡ items_over_of o duals
            items = r.items ∙ items-read y o duals q.duals

            shown : ShowsOptimal d (plan_of q.s q.z) (λ i. multipliers_of d i q.z) o
                (base_of d duals) (vector_of d duals)
                → ProvesOptimal m c
            shown sh = record {
              inside = inside;
              items = subst (λ (items : List Item). Each (IsItem m) items) (sym items)
                  (items-in o duals (o *ℤ sign_of m.sense) sh.total sh.items_scale model sh.items);
              scale = subst (λ v. 0ℚ <ℚ v) (sym r.scale) zero_lt_one;
              columns = length_read x c.plan r.plan;
              covered = covered_by q.s q.s q.z c.covers c.scale 1ℚ c.plan c.value q.scaled.point.scale sh.covers
                  (amounts-over x q.s q.z q.point c.covers r.covers) r.scale
                  (sym (over-self q.s q.scaled.point.scale)) (r.plan ∙ plan-over x q.s q.z q.point)
                  (r.value ∙ bound-over x q.s q.z q.point);
              sums =
                  ap (combination m) items ∙ items-total o duals (o *ℤ sign_of m.sense) sh.total sh.items_scale sh.items
                  ∙ target-over m.sense (column_count m) sh.total o q.s (pair q.z (column_count m)) sh.items_scale
                  q.scaled.point.scale sh.bound
                  ∙ ap (target m.sense (column_count m)) (sym (r.value ∙ bound-over x q.s q.z q.point));
            }

    pub read_infeasible_proves : IsReadInfeasible m own rows c → ProvesInfeasible m c
    read_infeasible_proves r =
        shown (infeasible_proves d P own rows (reform_is d) r.ending.basis
        r.ending.ends.no_improving r.ending.ends.below)
      where
        items : c.items ≡ items_over_of (pos 1) duals
        items = r.items ∙ items-read (weight_of P rows) (pos 1) duals (λ q l. sym (over-one (slack_entries P rows q)))

        shown : ShowsInfeasible d (base_of d duals) (vector_of d duals) → ProvesInfeasible m c
        shown sh = record {
          inside = inside;
          items = subst (λ (items : List Item). Each (IsItem m) items) (sym items)
              (items-in (pos 1) duals (pos 0) sh.total (omega (arith, ints)) model sh.items);
          constant = over sh.total (pos 1);
          positive = over_pos sh.total (pos 1) (omega (arith, ints)) sh.positive;
          sums =
              ap (combination m) items ∙ items-total (pos 1) duals (pos 0) sh.total (omega (arith, ints)) sh.items
              ∙ ap (plan_vector (over sh.total (pos 1)) (zeros (column_count m))) (over-zero (pos 1));
        }

    pub read_unbounded_proves : (column : ℕ) (x r : ℕ → Fraction)
        → IsReadUnbounded m own rows column x r c → ProvesUnbounded m c
    read_unbounded_proves column x r e = by (unbounded_scaled P own rows column x r e.ending)
      where
        by : ScaledUnbounded P own rows column x r → ProvesUnbounded m c
        by q = shown
            (unbounded_proves d P own rows column q.s q.z q.t q.w (reform_is d) q.scaled.basis q.scaled.ends
            q.scaled.point q.scaled.move)
          where
            shown : ShowsUnbounded d (plan_of q.s q.z) (λ i. multipliers_of d i q.z) (plan_of (pos 0) q.w)
                (λ i. multipliers_of d i q.w)
                → ProvesUnbounded m c
            shown sh = record {
              inside = inside;
              items = subst (λ (items : List Item). Each (IsItem m) items) (sym e.items) tt;
              scale = subst (λ v. 0ℚ <ℚ v) (sym e.scale) zero_lt_one;
              columns = length_read x c.plan e.plan;
              step_columns = length_read r c.step e.step;
              covered = covered_by q.s q.s q.z c.covers c.scale 1ℚ c.plan c.value q.scaled.point.scale sh.covers
                  (amounts-over x q.s q.z q.point c.covers e.covers) e.scale
                  (sym (over-self q.s q.scaled.point.scale)) (e.plan ∙ plan-over x q.s q.z q.point)
                  (e.value ∙ bound-over x q.s q.z q.point);
              held = covered_by (pos 0) q.t q.w c.holds 1ℚ 0ℚ c.step c.step_bound q.scaled.move.scale sh.step_holds
                  (amounts-over r q.t q.w q.move c.holds e.holds) refl
                  (sym (over-zero q.t)) (e.step ∙ plan-over r q.t q.w q.move)
                  (e.step_bound ∙ bound-over r q.t q.w q.move);
              improves = subst (Improves m.sense) (sym (e.step_bound ∙ bound-over r q.t q.w q.move))
                  (improves-over m.sense (pair q.w (column_count m)) q.t q.scaled.move.scale sh.better);
            }

  -- ---- the functions give such certificates
  module _ (inside : List Fraction) (own : Columns) (rows : Matrix) where
    pub optimal_is_read : (x y : ℕ → Fraction) → OptimalEnding (counterpart m) own rows x y
        → IsReadOptimal m own rows x y (optimal_read m inside x y)
    optimal_is_read x y en = record {
      ending = en;
      status = refl;
      scale = refl;
      plan = refl;
      value = refl;
      covers = covers_have_amounts m x;
      items = refl;
    }

    pub infeasible_is_read : InfeasibleEnding (counterpart m) own rows
        → IsReadInfeasible m own rows (infeasible_read m inside rows)
    infeasible_is_read en = record { ending = en; status = refl; scale = refl; items = refl }

    pub unbounded_is_read : (column : ℕ) (x r : ℕ → Fraction) → UnboundedEnding (counterpart m) own rows column x r
        → IsReadUnbounded m own rows column x r (unbounded_read m inside x r)
    unbounded_is_read column x r en = record {
      ending = en;
      status = refl;
      scale = refl;
      plan = refl;
      value = refl;
      covers = covers_have_amounts m x;
      step = refl;
      step_bound = refl;
      holds = covers_have_amounts m r;
      items = refl;
    }
