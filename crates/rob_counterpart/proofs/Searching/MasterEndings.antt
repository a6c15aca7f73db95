-- The endings of a master in the model's own words.
use Rattle.std.proofs.Common.{◌≡◌, ℕ, suc, ◌+◌, ◌<◌, ◌≤◌, List, sym, ap, ap₂, ◌∙◌, subst, arith}
use Rattle.std.proofs.lemmas.Int.{ints}
use lib.IntN.{ℤ, pos, ◌+ℤ◌, ◌*ℤ◌, neg_ℤ}
use lib.Signed.{◌<ℤ◌, ◌≤ℤ◌}
use Rattle.rob_algebra.specs.Fraction.{Fraction, of_int, ◌≤ℚ◌, ◌<ℚ◌}
use Rattle.rob_algebra.specs.Integer.{ring, zero-mul}
use Rattle.rob_linear.specs.Vectors.{Matrix, Columns, sum_to}
use Rattle.rob_linear.specs.Vectors as V
use Rattle.rob_linear.specs.Systems.{IsSolution}
use Rattle.rob_linear.specs.Programs.{Program, Admits, Keeps, system_of}
use Rattle.rob_linear.proofs.LinearPrograms.Sums.{sum_ext}
use Rattle.rob_linear.proofs.Meaning.Endings.{point_is_solution, move_is_ray}
use Rattle.rob_linear.proofs.LinearPrograms.Programs.{value_of, admits_from_solution, keeps_from_solution}
use Rattle.rob_meaning.specs.Places.{0ℚ, 1ℚ, Each, tabulate}
use Rattle.rob_meaning.specs.Vectors.{zeros}
use Rattle.rob_meaning.specs.RobustModel.{RobustModel, column_count}
use Rattle.rob_meaning.specs.Forms.{form_columns, form_at, plan_vector}
use Rattle.rob_meaning.specs.Proves.{IsItem, combination, target, Improves}
use Rattle.rob_counterpart.specs.RobustProgram.{RobustProgram}
use Rattle.rob_counterpart.specs.Splitting.{plus, minus, difference}
use Rattle.rob_counterpart.proofs.Proving.ScaledEndings.{pair, plan_of}
use Rattle.rob_counterpart.specs.Endings.{slack_entries, objective_entry, OptimalEnding, InfeasibleEnding, UnboundedEnding}
use Rattle.rob_counterpart.specs.Counterpart.{sign_of, robust_of, master_program}
use Rattle.rob_counterpart.specs.ReadCertificates.{plan_read, bound_read, weight_of}
use Rattle.rob_counterpart.specs.Master.{Cuts, cut_entry, IsMaster}
use Rattle.rob_counterpart.specs.MasterItems.{AreCuts, cut_vector, cut_item, cut_items}
use Rattle.rob_counterpart.proofs.Pairs.Blocks.{sum_pairs}
use Rattle.rob_counterpart.proofs.Proving.ReadingLemmas.{plan_dot}
use Rattle.rob_counterpart.proofs.Pairs.QuotientLemmas.{over, over-zero, over-one, over-self, over_nonneg, over_pos, over_le}
use Rattle.rob_counterpart.proofs.Pairs.TabulateLemmas.{tabulate-same}
use Rattle.rob_counterpart.proofs.Proving.TargetLemmas.{ends-over, target-over, improves-over}
use Rattle.rob_counterpart.proofs.Proving.CoverLemmas.{vector-over}
use Rattle.rob_counterpart.proofs.Proving.EndingScales.{IsOver, ScaledOptimal, ScaledUnbounded, optimal_scaled, unbounded_scaled, difference-over}
use Rattle.rob_counterpart.proofs.Searching.MasterLemmas.{master_is, master_cost, master_optimal, master_infeasible}
use Rattle.rob_counterpart.proofs.Searching.CutItemLemmas.{cut-whole, form_at-over, weighted-over, weighted_items}
use Rattle.rob_counterpart.proofs.Proving.WholeCertificates.{cuts_entry, CutsSum}

-- a cut at a point of the master
cut_row : (d : RobustProgram) (cuts : Cuts) (P : Program) (x : ℕ → ℤ) → IsMaster d cuts P → (q : ℕ) → q < cuts.count
    → V.dot P.n (P.a q) x ≡ sum_to (suc d.decisions) (λ j. cut_entry d cuts q (suc j) *ℤ pair x j)
cut_row d cuts P x ma q ql =
    ap (λ v. sum_to v (λ k. P.a q k *ℤ x k)) ma.width ∙ sum_pairs (suc d.decisions) (λ k. P.a q k *ℤ x k)
    ∙ sum_ext (suc d.decisions) (λ j. (P.a q (plus j) *ℤ x (plus j)) +ℤ (P.a q (minus j) *ℤ x (minus j)))
    (λ j. cut_entry d cuts q (suc j) *ℤ pair x j) (λ j jl.
    let e : (cut_entry d cuts q (suc j) *ℤ x (plus j)) +ℤ (neg_ℤ (cut_entry d cuts q (suc j)) *ℤ x (minus j))
    ≡ cut_entry d cuts q (suc j) *ℤ pair x j = simp ring in
    ap (λ v. (v *ℤ x (plus j)) +ℤ (P.a q (minus j) *ℤ x (minus j))) (ma.at_plus q j ql (omega arith))
    ∙ ap (λ v. (cut_entry d cuts q (suc j) *ℤ x (plus j)) +ℤ (v *ℤ x (minus j))) (ma.at_minus q j ql (omega arith)) ∙ e)

-- it is at most 0 where its row holds
cut_holds : (d : RobustProgram) (cuts : Cuts) (P : Program) (s : ℤ) (x : ℕ → ℤ) → IsMaster d cuts P
    → (q : ℕ) → q < cuts.count
    → V.dot P.n (P.a q) x ≤ℤ (s *ℤ P.b q)
    → V.dot (suc (suc d.decisions)) (cut_entry d cuts q) (plan_of s x) ≤ℤ pos 0
cut_holds d cuts P s x ma q ql h =
    let a : V.dot P.n (P.a q) x ≡ sum_to (suc d.decisions) (λ j. cut_entry d cuts q (suc j) *ℤ pair x j) =
    cut_row d cuts P x ma q ql in
    let f : ℤ = cut_entry d cuts q 0 in
    let b : s *ℤ P.b q ≡ neg_ℤ (cut_entry d cuts q 0 *ℤ s) = ap (λ v. s *ℤ v) (ma.at_right q ql) ∙ simp ring in
    let e : V.dot (suc (suc d.decisions)) (cut_entry d cuts q) (plan_of s x)
    ≡ (cut_entry d cuts q 0 *ℤ s) +ℤ sum_to (suc d.decisions) (λ j. cut_entry d cuts q (suc j) *ℤ pair x j) =
    plan_dot (suc d.decisions) (cut_entry d cuts q) s x in
    omega (arith, ints)

module _ (m : RobustModel) (cuts : Cuts) (are : AreCuts m cuts) (own : Columns) (rows : Matrix) where
  abbrev P : Program
  P = master_program m cuts

  master : IsMaster (robust_of m) cuts (master_program m cuts)
  master = master_is (robust_of m) cuts

  -- ---- items
  module _ (y : ℕ → Fraction) (t : ℤ) (w : ℕ → ℤ) (tp : pos 0 <ℤ t)
      (weights : (q : ℕ) → q < cuts.count → y q ≡ over (w q) t) (tau total : ℤ)
      (it : CutsSum (robust_of m) cuts w tau total) where
    items-in : Each (IsItem m) (cut_items m cuts y)
    items-in = weighted_items m cuts.count (cut_item m cuts y)
        (λ q l. subst (λ v. 0ℚ ≤ℚ v) (sym (weights q l)) (over_nonneg (w q) t tp (it.nonnegative q l))) are.taken

    items-sum : combination m (cut_items m cuts y) ≡ plan_vector (over total t) (zeros (column_count m)) (over tau t)
    items-sum =
        weighted-over m t tp cuts.count (cut_item m cuts y) w (cut_entry (robust_of m) cuts) weights
        (λ q l. cut-whole m (cuts.form q) (cuts.base q) (cuts.vector q) (are.forms q l) (y q))
        ∙ ends-over (column_count m) (cuts_entry (robust_of m) cuts w) t tau total it.on_constant it.decisions it.on_tau

  -- ---- the plan
  module _ (x : ℕ → Fraction) (s : ℤ) (z : ℕ → ℤ) (point : IsOver (master_program m cuts) x s z) where
    at-difference : (j : ℕ) → j ≤ column_count m → difference x j ≡ over (pair z j) s
    at-difference j l = difference-over P x s z point j (omega arith)

    vector-read : (first : ℤ)
        → plan_vector (over first s) (plan_read m x) (bound_read m x)
        ≡ tabulate (form_columns m) (λ j. over (plan_of first z j) s)
    vector-read first =
        ap₂ (λ (xs : List Fraction) v. plan_vector (over first s) xs v)
        (tabulate-same (column_count m) (difference x) (λ j. over (pair z j) s)
        (λ j l. at-difference j (omega arith))) (at-difference (column_count m) (omega arith))
        ∙ vector-over m first s z

    -- each cut keeps at the plan, or along the direction
    kept-over : (first : ℤ) (head : Fraction) → head ≡ over first s → pos 0 <ℤ s → (q : ℕ) → q < cuts.count
        → V.dot (form_columns m) (cut_entry (robust_of m) cuts q) (plan_of first z) ≤ℤ pos 0
        → form_at m (cuts.form q) (of_int (cuts.base q)) (cut_vector m cuts q)
        (plan_vector head (plan_read m x) (bound_read m x)) ≤ℚ 0ℚ
    kept-over first head eh sp q ql h =
        subst (λ v. v ≤ℚ 0ℚ)
        (sym (ap (λ v. form_at m (cuts.form q) (of_int (cuts.base q)) (cut_vector m cuts q)
        (plan_vector v (plan_read m x) (bound_read m x))) eh
        ∙ ap (form_at m (cuts.form q) (of_int (cuts.base q)) (cut_vector m cuts q)) (vector-read first)
        ∙ form_at-over m (cuts.form q) (cuts.base q) (cuts.vector q) (are.forms q ql) (plan_of first z) s))
        (subst (λ v. over (V.dot (form_columns m) (cut_entry (robust_of m) cuts q) (plan_of first z)) s ≤ℚ v)
        (over-zero s)
        (over_le (V.dot (form_columns m) (cut_entry (robust_of m) cuts q) (plan_of first z)) (pos 0) s sp h))

  -- ---- the endings
  pub cuts_optimal : (x y : ℕ → Fraction) → OptimalEnding (master_program m cuts) own rows x y
      → Each (IsItem m) (cut_items m cuts y)
      × (combination m (cut_items m cuts y) ≡ target m.sense (column_count m) (bound_read m x))
  cuts_optimal x y en = by (optimal_scaled P own rows x y en)
    where
      by : ScaledOptimal P own rows x y
          → Each (IsItem m) (cut_items m cuts y)
          × (combination m (cut_items m cuts y) ≡ target m.sense (column_count m) (bound_read m x))
      by q =
          let o : ℤ = objective_entry P rows in
          let r = master_optimal (robust_of m) cuts P own rows q.s q.z master q.scaled in (
            items-in y (objective_entry P rows) (slack_entries P rows) q.objective q.duals
                (objective_entry P rows *ℤ sign_of m.sense) r.0 r.1,
            items-sum y (objective_entry P rows) (slack_entries P rows) q.objective q.duals
                (objective_entry P rows *ℤ sign_of m.sense) r.0 r.1
                ∙ target-over m.sense (column_count m) r.0 (objective_entry P rows) q.s (pair q.z (column_count m))
                q.objective q.scaled.point.scale r.2
                ∙ ap (target m.sense (column_count m))
                (sym (at-difference x q.s q.z q.point (column_count m) (omega arith))),
          )

  pub cuts_infeasible : InfeasibleEnding (master_program m cuts) own rows
      → Each (IsItem m) (cut_items m cuts (weight_of P rows)) × (constant : Fraction) × (0ℚ <ℚ constant)
      × (combination m (cut_items m cuts (weight_of P rows)) ≡ plan_vector constant (zeros (column_count m)) 0ℚ)
  cuts_infeasible en =
      let r = master_infeasible (robust_of m) cuts P own rows master en in
      let e : (q : ℕ) → q < cuts.count → weight_of P rows q ≡ over (slack_entries P rows q) (pos 1) =
      (λ q l. sym (over-one (slack_entries P rows q))) in (
        items-in (weight_of P rows) (pos 1) (slack_entries P rows) (omega (arith, ints)) e (pos 0) r.0 r.1,
        over r.0 (pos 1),
        over_pos r.0 (pos 1) (omega (arith, ints)) r.2,
        items-sum (weight_of P rows) (pos 1) (slack_entries P rows) (omega (arith, ints)) e (pos 0) r.0 r.1
            ∙ ap (plan_vector (over r.0 (pos 1)) (zeros (column_count m))) (over-zero (pos 1)),
      )

  pub cuts_improve : (column : ℕ) (x r : ℕ → Fraction) → UnboundedEnding (master_program m cuts) own rows column x r
      → Improves m.sense (bound_read m r)
  cuts_improve column x r en = by (unbounded_scaled P own rows column x r en)
    where
      by : ScaledUnbounded P own rows column x r → Improves m.sense (bound_read m r)
      by q =
          let ray : IsSolution (system_of P) (pos 0) q.w × (pos 0 <ℤ q.w (P.n + P.m)) =
          move_is_ray (system_of P) own rows column q.t q.w q.scaled.basis q.scaled.ends q.scaled.move in
          subst (Improves m.sense) (sym (at-difference r q.t q.w q.move (column_count m) (omega arith)))
          (improves-over m.sense (pair q.w (column_count m)) q.t q.scaled.move.scale
          (subst (λ v. pos 0 <ℤ v) (value_of P (pos 0) q.w ray.0.solves
          ∙ master_cost (robust_of m) cuts P (pos 0) q.w master) ray.1))

  -- each cut keeps at the plan of an optimal master
  pub cuts_keep : (x y : ℕ → Fraction) → OptimalEnding (master_program m cuts) own rows x y → (q : ℕ) → q < cuts.count
      → form_at m (cuts.form q) (of_int (cuts.base q)) (cut_vector m cuts q)
      (plan_vector 1ℚ (plan_read m x) (bound_read m x)) ≤ℚ 0ℚ
  cuts_keep x y en = by (optimal_scaled P own rows x y en)
    where
      by : ScaledOptimal P own rows x y → (q : ℕ) → q < cuts.count
          → form_at m (cuts.form q) (of_int (cuts.base q)) (cut_vector m cuts q)
          (plan_vector 1ℚ (plan_read m x) (bound_read m x)) ≤ℚ 0ℚ
      by w q ql =
          let adm : Admits P w.s w.z =
          admits_from_solution P w.s w.z w.scaled.point.scale
          (point_is_solution (system_of P) own rows w.s w.z w.scaled.basis w.scaled.ends.feasible w.scaled.point) in
          kept-over x w.s w.z w.point w.s 1ℚ (sym (over-self w.s w.scaled.point.scale)) w.scaled.point.scale q ql
          (cut_holds (robust_of m) cuts P w.s w.z master q ql (adm.rows q ql))

  -- of an unbounded one, and along its direction
  pub cuts_keep_along : (column : ℕ) (x r : ℕ → Fraction)
      → UnboundedEnding (master_program m cuts) own rows column x r → (q : ℕ)
      → q < cuts.count
      → (form_at m (cuts.form q) (of_int (cuts.base q)) (cut_vector m cuts q)
      (plan_vector 1ℚ (plan_read m x) (bound_read m x)) ≤ℚ 0ℚ)
      × (form_at m (cuts.form q) (of_int (cuts.base q)) (cut_vector m cuts q)
      (plan_vector 0ℚ (plan_read m r) (bound_read m r)) ≤ℚ 0ℚ)
  cuts_keep_along column x r en q ql = by (unbounded_scaled P own rows column x r en)
    where
      by : ScaledUnbounded P own rows column x r
          → (form_at m (cuts.form q) (of_int (cuts.base q)) (cut_vector m cuts q)
          (plan_vector 1ℚ (plan_read m x) (bound_read m x)) ≤ℚ 0ℚ)
          × (form_at m (cuts.form q) (of_int (cuts.base q)) (cut_vector m cuts q)
          (plan_vector 0ℚ (plan_read m r) (bound_read m r)) ≤ℚ 0ℚ)
      by w =
          let adm : Admits P w.s w.z =
          admits_from_solution P w.s w.z w.scaled.point.scale
          (point_is_solution (system_of P) own rows w.s w.z w.scaled.basis w.scaled.ends.feasible w.scaled.point) in
          let ray : IsSolution (system_of P) (pos 0) w.w × (pos 0 <ℤ w.w (P.n + P.m)) =
          move_is_ray (system_of P) own rows column w.t w.w w.scaled.basis w.scaled.ends w.scaled.move in
          let k : Keeps P w.w = keeps_from_solution P w.w ray.0 in
          let zero_right : pos 0 *ℤ P.b q ≡ pos 0 = zero-mul (P.b q) in (
            kept-over x w.s w.z w.point w.s 1ℚ (sym (over-self w.s w.scaled.point.scale)) w.scaled.point.scale q ql
                (cut_holds (robust_of m) cuts P w.s w.z master q ql (adm.rows q ql)),
            kept-over r w.t w.w w.move (pos 0) 0ℚ (sym (over-zero w.t)) w.scaled.move.scale q ql
                (cut_holds (robust_of m) cuts P (pos 0) w.w master q ql
                (subst (λ v. V.dot P.n (P.a q) w.w ≤ℤ v) (sym zero_right) (k.rows q ql))),
          )
