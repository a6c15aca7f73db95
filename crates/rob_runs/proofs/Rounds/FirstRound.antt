-- No run is finished before its first round: without cuts the master has no best plan, and its direction breaks a form.
use Rattle.std.proofs.Common.{◌≡◌, ◌≢◌, ℕ, zero, suc, ◌+◌, ◌<◌, List, [], ◌∷◌, ◌++◌, length, refl, sym, ap, ap₂, ◌∙◌, subst, arith, inl, inr, ◌⊎◌}
use Rattle.std.proofs.lemmas.Int.{ints}
use Rattle.std.proofs.lemmas.Bool.{cases_eq}
use lib.IntN.{pos, neg_ℤ}
use lib.Signed.{◌<ℤ◌}
use Rattle.rob_algebra.specs.Fraction.{Fraction, of_int, inv_ℚ, neg_ℚ, ◌+ℚ◌, ◌-ℚ◌, ◌*ℚ◌, ◌/ℚ◌, ◌≤ℚ◌, ◌<ℚ◌}
use Rattle.rob_algebra.specs.FractionLaws as Q
use Rattle.rob_algebra.specs.FractionOrderLaws.{le_refl_ℚ, not_lt_ℚ, le_of_lt_ℚ, nonneg_sub_ℚ, pos_sub_ℚ, mul_nonneg_ℚ, add_nonneg_ℚ, lt_from, add_mono_ℚ, mul_mono_ℚ, lt_irrefl_ℚ}
use Rattle.rob_algebra.specs.FractionLaws.{ℚ_ring}
use Rattle.rob_algebra.specs.Lists.{plus_all, length-scale}
use Rattle.rob_linear.specs.Vectors.{Matrix, columns_of}
use Rattle.rob_algebra.specs.Polynomials.{lit, minus, ◌:*◌, ◌:+◌, ◌:-◌, v0, v1, v2}
use Rattle.rob_linear.specs.Programs.{Program, auxiliary_of, ShowsEmpty}
use Rattle.rob_linear.specs.Turns.{own_of}
use Rattle.rob_linear.proofs.Meaning.Optimality.{optimal_duals_ℚ}
use Rattle.rob_linear.proofs.Meaning.Truths.{infeasible as shows_empty}
use Rattle.rob_meaning.specs.Certificates.{Status, optimal, infeasible, unbounded}
use Rattle.rob_meaning.specs.Forms.{matrices, matrix_at, form_at, plan_vector}
use Rattle.rob_meaning.specs.Guarantee.{IsNoWorse, HasBound}
use Rattle.rob_meaning.specs.Places.{0ℚ, 1ℚ}
use Rattle.rob_meaning.specs.Proves.{Improves}
use Rattle.rob_meaning.specs.RobustModel.{Sense, minimise, maximise, RobustModel, column_count}
use Rattle.rob_meaning.specs.UncertaintySet.{Admits}
use Rattle.rob_meaning.specs.Values.{value}
use Rattle.rob_meaning.specs.Vectors.{scale, zeros}
use Rattle.rob_meaning.specs.WellFormed.{IsModel}
use Rattle.rob_meaning.proofs.Lists.AbsoluteLemmas.{inv_pos, pos_some}
use Rattle.rob_meaning.proofs.Conditions.AdmittedLemmas.{admits_jointly}
use Rattle.rob_meaning.proofs.Scenarios.JointBoundLemmas.{bound_joint}
use Rattle.rob_meaning.proofs.Tables.AtLemmas.{at_bound, sum_at-plus_plan, sum_at-scale_plan}
use Rattle.rob_meaning.proofs.Lists.LinearLemmas.{zero_lt_one}
use Rattle.rob_counterpart.specs.Counterpart.{sign_of, robust_of}
use Rattle.rob_counterpart.specs.ReadCertificates.{plan_read, bound_read}
use Rattle.rob_counterpart.specs.Splitting as Split
use Rattle.rob_counterpart.specs.Splitting.{plus, difference}
use Rattle.rob_counterpart.proofs.Searching.MasterEndings.{cuts_improve}
use Rattle.rob_counterpart.proofs.Searching.MasterLemmas.{master_is}
use Rattle.rob_counterpart.proofs.Pairs.TabulateLemmas.{tabulate-same, zeros-tabulate}
use Rattle.rob_runs.specs.Cuts.{cuts_of, master_over}
use Rattle.rob_runs.specs.Searches.{own_at}
use Rattle.rob_runs.specs.Runs.{MasterIsOptimal, MasterIsUnbounded, MasterIsInfeasible, plan_at, direction_at, KeepsForms, IsFinished}
use Rattle.rob_runs.proofs.Rounds.CutLemmas.{are_cuts}
use Rattle.rob_runs.proofs.Proving.RunCertificates.{length-plan, length-plan_at, length-direction_at}

-- ---- nothing stays below a bound that falls without end, or above one that rises
quotient_nonneg : (a b : Fraction) → 0ℚ ≤ℚ a → 0ℚ <ℚ b → 0ℚ ≤ℚ (a /ℚ b)
quotient_nonneg a b h k = mul_nonneg_ℚ a (inv_ℚ b) h (le_of_lt_ℚ 0ℚ (inv_ℚ b) (inv_pos b k))

falls : (v t b : Fraction) → b <ℚ 0ℚ → ((s : Fraction) → 0ℚ ≤ℚ s → v ≤ℚ t +ℚ s *ℚ b) → ⊥
falls v t b h k =
    let c : Fraction = neg_ℚ b in
    let cp : 0ℚ <ℚ neg_ℚ b =
    lt_from (b ∷ []) (lit (pos 0)) (minus v0) (lit (pos 0) :- v0) refl (pos_sub_ℚ b 0ℚ h) in
    let start : v ≤ℚ t =
    subst (λ w. v ≤ℚ w) (Q.ring (t ∷ b ∷ []) (v0 :+ lit (pos 0) :* v1) v0 refl) (k 0ℚ (le_refl_ℚ 0ℚ)) in
    let a : Fraction = (t -ℚ v) +ℚ 1ℚ in
    let an : 0ℚ ≤ℚ (t -ℚ v) +ℚ 1ℚ =
    add_nonneg_ℚ (t -ℚ v) 1ℚ (nonneg_sub_ℚ v t start) (le_of_lt_ℚ 0ℚ 1ℚ zero_lt_one) in
    let s : Fraction = ((t -ℚ v) +ℚ 1ℚ) /ℚ neg_ℚ b in
    let e : (((t -ℚ v) +ℚ 1ℚ) /ℚ neg_ℚ b) *ℚ neg_ℚ b ≡ (t -ℚ v) +ℚ 1ℚ =
    Q.div_mul ((t -ℚ v) +ℚ 1ℚ) (neg_ℚ b) (pos_some (neg_ℚ b) cp) in
    let f : t +ℚ (((t -ℚ v) +ℚ 1ℚ) /ℚ neg_ℚ b) *ℚ b ≡ v -ℚ 1ℚ =
    Q.ring (t ∷ (((t -ℚ v) +ℚ 1ℚ) /ℚ neg_ℚ b) ∷ b ∷ []) (v0 :+ v1 :* v2) (v0 :- v1 :* minus v2) refl
    ∙ ap (λ w. t -ℚ w) e ∙ Q.ring (t ∷ v ∷ []) (v0 :- ((v0 :- v1) :+ lit (pos 1))) (v1 :- lit (pos 1)) refl in
    not_lt_ℚ v (v -ℚ 1ℚ) (subst (λ w. v ≤ℚ w) f (k s (quotient_nonneg ((t -ℚ v) +ℚ 1ℚ) (neg_ℚ b) an cp)))
    (lt_from (v ∷ []) (v0 :- lit (pos 1)) v0 (lit (pos 1)) refl zero_lt_one)

rises : (v t b : Fraction) → 0ℚ <ℚ b → ((s : Fraction) → 0ℚ ≤ℚ s → t +ℚ s *ℚ b ≤ℚ v) → ⊥
rises v t b h k =
    let start : t ≤ℚ v =
    subst (λ w. w ≤ℚ v) (Q.ring (t ∷ b ∷ []) (v0 :+ lit (pos 0) :* v1) v0 refl) (k 0ℚ (le_refl_ℚ 0ℚ)) in
    let an : 0ℚ ≤ℚ (v -ℚ t) +ℚ 1ℚ =
    add_nonneg_ℚ (v -ℚ t) 1ℚ (nonneg_sub_ℚ t v start) (le_of_lt_ℚ 0ℚ 1ℚ zero_lt_one) in
    let e : (((v -ℚ t) +ℚ 1ℚ) /ℚ b) *ℚ b ≡ (v -ℚ t) +ℚ 1ℚ = Q.div_mul ((v -ℚ t) +ℚ 1ℚ) b (pos_some b h) in
    let f : t +ℚ (((v -ℚ t) +ℚ 1ℚ) /ℚ b) *ℚ b ≡ v +ℚ 1ℚ =
    ap (λ w. t +ℚ w) e ∙ Q.ring (t ∷ v ∷ []) (v0 :+ ((v1 :- v0) :+ lit (pos 1))) (v1 :+ lit (pos 1)) refl in
    not_lt_ℚ (v +ℚ 1ℚ) v (subst (λ w. w ≤ℚ v) f (k (((v -ℚ t) +ℚ 1ℚ) /ℚ b) (quotient_nonneg ((v -ℚ t) +ℚ 1ℚ) b an h)))
    (lt_from (v ∷ []) v0 (v0 :+ lit (pos 1)) (lit (pos 1)) refl zero_lt_one)

no_end : (sense : Sense) (v t b : Fraction) → Improves sense b
    → ((s : Fraction) → 0ℚ ≤ℚ s → IsNoWorse sense v (t +ℚ s *ℚ b)) → ⊥
no_end minimise v t b h k = falls v t b h k
no_end maximise v t b h k = rises v t b h k

not_improving : (sense : Sense) → ¬ (Improves sense 0ℚ)
not_improving minimise h = lt_irrefl_ℚ 0ℚ h
not_improving maximise h = lt_irrefl_ℚ 0ℚ h

-- a plan whose bound alone is moved
moved_columns : (plan : List Fraction) (n : ℕ) (t s b : Fraction) → length plan ≡ n
    → plus_all ℚ_ring (plan ++ t ∷ []) (scale s (zeros n ++ b ∷ [])) ≡ plan ++ (t +ℚ s *ℚ b) ∷ []
moved_columns [] zero t s b e = refl
moved_columns [] (suc n) t s b e = absurd (omega arith)
moved_columns (x ∷ plan) zero t s b e = absurd (omega arith)
moved_columns (x ∷ plan) (suc n) t s b e =
    ap₂ (λ y (ys : List Fraction). y ∷ ys) (Q.ring (x ∷ s ∷ []) (v0 :+ v1 :* lit (pos 0)) v0 refl)
    (moved_columns plan n t s b (omega arith))

module _ (m : RobustModel) (basis : List ℕ) where
  abbrev P : Program
  P = master_over m []

  -- a master without cuts has no best plan, for the bound costs something
  not_optimal : (x y : ℕ → Fraction) → ¬ (MasterIsOptimal m [] basis x y)
  not_optimal x y o =
      let duals =
      optimal_duals_ℚ (master_over m []) (own_at (master_over m []) basis) o.rows x y o.ending.basis o.ending.ends
      o.ending.point o.ending.duals in
      by m.sense
      (subst (λ v. of_int v ≤ℚ 0ℚ) (master_is (robust_of m) (cuts_of [])).cost_tau.0
      (duals.0.columns (plus (column_count m)) (omega arith)))
      (subst (λ v. of_int v ≤ℚ 0ℚ) (master_is (robust_of m) (cuts_of [])).cost_tau.1
      (duals.0.columns (Split.minus (column_count m)) (omega arith)))
    where
      by : (sense : Sense) → of_int (sign_of sense) ≤ℚ 0ℚ → of_int (neg_ℤ (sign_of sense)) ≤ℚ 0ℚ → ⊥
      by minimise h k = not_lt_ℚ 1ℚ 0ℚ k zero_lt_one
      by maximise h k = not_lt_ℚ 1ℚ 0ℚ h zero_lt_one

  -- and has a plan
  not_infeasible : (rows : Matrix) → ¬ (MasterIsInfeasible m [] basis rows)
  not_infeasible rows o =
      let w : ShowsEmpty (master_over m []) (λ t. rows 0 ((master_over m []).n + t)) =
      shows_empty (master_over m []) (own_of (auxiliary_of (master_over m [])) (columns_of basis)) rows
      o.ending.basis o.ending.ends.no_improving o.ending.ends.below in
      let l : pos 0 <ℤ pos 0 = w.below in
      omega (arith, ints)

  module _ (model : IsModel m) (inside : List Fraction) (admitted : Admits m inside) (column : ℕ) (x r : ℕ → Fraction)
      (o : MasterIsUnbounded m [] basis column x r) where
    improves : Improves m.sense (bound_read m r)
    improves = cuts_improve m (cuts_of []) (are_cuts m [] tt) (own_at (master_over m []) basis)
        o.rows column x r o.ending

    -- only the entering column moves
    at_rest : (k : ℕ) → k < (master_over m []).n → k ≢ column → r k ≡ 0ℚ
    at_rest k l ne = o.ending.move.rest k (omega arith) (λ i il. absurd (omega arith)) ne

    -- it is one of the bound's
    of_bound : (plus (column_count m) ≡ column) ⊎ (Split.minus (column_count m) ≡ column)
    of_bound =
        elim (cases_eq (plus (column_count m)) column) [
          | inl e ↦ inl e
          | inr a ↦ elim (cases_eq (Split.minus (column_count m)) column) [
            | inl e ↦ inr e
            | inr b ↦
                absurd (not_improving m.sense
                (subst (Improves m.sense)
                (ap₂ ◌-ℚ◌ (at_rest (plus (column_count m)) (omega arith) a)
                (at_rest (Split.minus (column_count m)) (omega arith) b)
                ∙ Q.ring [] (lit (pos 0) :- lit (pos 0)) (lit (pos 0)) refl)
                improves))
          ]
        ]

    -- so the plan doesn't move
    still : plan_read m r ≡ zeros (column_count m)
    still =
        tabulate-same (column_count m) (difference r) (λ j. 0ℚ) (λ j l.
        let a : plus j ≢ column = elim of_bound [ inl e ↦ (λ f. omega arith) | inr e ↦ (λ f. omega arith) ] in
        let b : Split.minus j ≢ column = elim of_bound [ inl e ↦ (λ f. omega arith) | inr e ↦ (λ f. omega arith) ] in
        ap₂ ◌-ℚ◌ (at_rest (plus j) (omega arith) a) (at_rest (Split.minus j) (omega arith) b)
        ∙ Q.ring [] (lit (pos 0) :- lit (pos 0)) (lit (pos 0)) refl)
        ∙ sym (zeros-tabulate (column_count m))

    moved_vector : (s : Fraction) → plus_all ℚ_ring (plan_at m x) (scale s (direction_at m r))
        ≡ plan_vector 1ℚ (plan_read m x) (bound_read m x +ℚ s *ℚ bound_read m r)
    moved_vector s =
        ap (λ (p : List Fraction). plus_all ℚ_ring (plan_at m x) (scale s (plan_vector 0ℚ p (bound_read m r)))) still
        ∙ ap₂ (λ y (ys : List Fraction). y ∷ ys) (Q.ring (s ∷ []) (lit (pos 1) :+ v0 :* lit (pos 0)) (lit (pos 1)) refl)
        (moved_columns (plan_read m x) (column_count m) (bound_read m x) s (bound_read m r) (length-plan m x))

    -- and if it kept all forms, each bound were one of the plan
    all_bounds : KeepsForms m (plan_at m x) → KeepsForms m (direction_at m r) → (s : Fraction) → 0ℚ ≤ℚ s
        → HasBound m (plan_read m x) (bound_read m x +ℚ s *ℚ bound_read m r)
    all_bounds kp kd s sn =
        at_bound m model (plan_read m x) (bound_read m x +ℚ s *ℚ bound_read m r) inside admitted
        (length-plan m x) (λ u a i l.
        let e : form_at m i 1ℚ u (plan_vector 1ℚ (plan_read m x) (bound_read m x +ℚ s *ℚ bound_read m r))
        ≡ form_at m i 1ℚ u (plan_at m x) +ℚ s *ℚ form_at m i 1ℚ u (direction_at m r) =
        ap (form_at m i 1ℚ u) (sym (moved_vector s))
        ∙ sum_at-plus_plan (matrix_at (matrices m) i) 1ℚ u (plan_at m x) (scale s (direction_at m r))
        (length-plan_at m x ∙ sym (length-scale ℚ_ring s (direction_at m r) ∙ length-direction_at m r))
        ∙ ap (λ v. form_at m i 1ℚ u (plan_at m x) +ℚ v)
        (sum_at-scale_plan (matrix_at (matrices m) i) 1ℚ s u (direction_at m r)) in
        subst (λ v. v ≤ℚ 0ℚ) (sym e)
        (subst (λ v. form_at m i 1ℚ u (plan_at m x) +ℚ s *ℚ form_at m i 1ℚ u (direction_at m r) ≤ℚ v)
        (Q.ring (s ∷ []) (lit (pos 0) :+ v0 :* lit (pos 0)) (lit (pos 0)) refl)
        (add_mono_ℚ (form_at m i 1ℚ u (plan_at m x)) 0ℚ
        (s *ℚ form_at m i 1ℚ u (direction_at m r)) (s *ℚ 0ℚ) (kp i l u a)
        (mul_mono_ℚ (form_at m i 1ℚ u (direction_at m r)) 0ℚ s (kd i l u a) sn))))

    not_both_kept : KeepsForms m (plan_at m x) → ¬ (KeepsForms m (direction_at m r))
    not_both_kept kp kd =
        no_end m.sense (value m (plan_read m x) inside m.objective) (bound_read m x) (bound_read m r) improves
        (λ s sn. ((bound_joint m model (plan_read m x) (bound_read m x +ℚ s *ℚ bound_read m r)
        (all_bounds kp kd s sn)).keeps inside (admits_jointly m model inside admitted)).objective)

  -- no run is finished without a round
  pub not_finished : IsModel m → (inside : List Fraction) → Admits m inside → (status : Status)
      → ¬ (IsFinished m [] basis status)
  not_finished model inside admitted optimal f = not_optimal f.0 f.1 f.2
  not_finished model inside admitted infeasible f = not_infeasible f.0 f.1
  not_finished model inside admitted unbounded f = not_both_kept model inside admitted f.0 f.1 f.2 f.3 f.4 f.5
