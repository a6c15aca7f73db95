-- Each search tells whether its form is kept, and each master is finished or has a next round.
use Rattle.std.proofs.Common.{◌≡◌, ℕ, zero, suc, ◌<◌, List, [], length, refl, sym, subst, arith, inl, inr, ◌⊎◌, true, false, cond}
use Rattle.std.proofs.lemmas.Bool.{cases_eq}
use Rattle.std.proofs.lemmas.Bool.Decides.{nat_tests}
use Rattle.std.specs.Prelude.{nat_eq, slice_index_or}
use lib.IntN.{pos}
use Rattle.rob_algebra.specs.Fraction.{Fraction}
use Rattle.rob_algebra.specs.FractionOrderLaws as Q
use Rattle.rob_linear.specs.Vectors.{Columns, Matrix, at, columns_of}
use Rattle.rob_linear.specs.Programs.{Program, system_of, auxiliary_of}
use Rattle.rob_linear.specs.Turns.{own_of, IsSameBasis, Enters}
use Rattle.rob_linear.specs.Paths.{Last, EndsAtOptimum, EndsAtRay, EndsInFirstPhase}
use Rattle.rob_linear.proofs.BasisPaths.LastBases.{last_ends, last_exists}
use Rattle.rob_linear.proofs.CostChange.OtherCosts.{turned_same}
use Rattle.rob_linear.proofs.BasisPaths.ProgramPaths.{steps_same}
use Rattle.rob_meaning.specs.Certificates.{Status, optimal, infeasible, unbounded}
use Rattle.rob_meaning.specs.Clearing.{denominator}
use Rattle.rob_meaning.specs.Forms.{matrices, form_columns, form_at}
use Rattle.rob_meaning.specs.Places.{0ℚ, 1ℚ, tabulate}
use Rattle.rob_meaning.specs.RobustModel.{RobustModel}
use Rattle.rob_meaning.specs.UncertaintySet.{Admits}
use Rattle.rob_meaning.specs.WellFormed.{IsModel}
use Rattle.rob_counterpart.specs.Endings.{OptimalEnding, UnboundedEnding}
use Rattle.rob_counterpart.specs.ReadCertificates.{scenario_read}
use Rattle.rob_counterpart.specs.WorstCases.{row_amounts}
use Rattle.rob_counterpart.proofs.Proving.CompletenessLemmas.{optimal_exists, unbounded_exists}
use Rattle.rob_counterpart.proofs.Pairs.TabulateLemmas.{length-tabulate}
use Rattle.rob_runs.specs.Cuts.{Cut, wholes, master_over}
use Rattle.rob_runs.specs.Searches.{own_at, search_at, FindsScenario, FindsRay}
use Rattle.rob_runs.specs.Runs.{MasterIsOptimal, MasterIsUnbounded, plan_at, direction_at, KeepsForm, KeepsForms, CutsOff, best, boundless, Round, IsRound, IsFinished}
use Rattle.rob_runs.specs.Readings.{IsKept, AreKept}
use Rattle.rob_runs.proofs.Searching.SearchPaths.{search_infeasible, not_infeasible}
use Rattle.rob_runs.proofs.Searching.FoundLemmas.{found_keeps, found_worst, ray_not_kept, scenario_cuts_off, ray_cuts_off}
use Rattle.rob_runs.proofs.Proving.RunCertificates.{length-plan_at, length-direction_at}

-- ---- last bases as lists
columns-tabulate : (n : ℕ) (f : ℕ → ℕ) (i : ℕ) → i < n → slice_index_or (tabulate n f) i 0 ≡ f i
columns-tabulate zero f i l = absurd (omega arith)
columns-tabulate (suc n) f zero l = refl
columns-tabulate (suc n) f (suc i) l = columns-tabulate n (λ k. f (suc k)) i (omega arith)

last_same : (P : Program) (basis basis' : Columns) → IsSameBasis P.m basis basis' → Last P basis → Last P basis'
last_same P basis basis' h l = record {
  reached = (l.reached.0, turned_same P l.reached.0 basis basis' h l.reached.1);
  ends = λ next t. l.ends next (steps_same P basis' basis next (λ i il. sym (h i il)) t);
}

pub last_list : (P : Program) → (basis : List ℕ) × (length basis ≡ P.m) × Last P (columns_of basis)
last_list P =
    let w : (basis : Columns) × Last P basis = last_exists P in (
      tabulate P.m w.0,
      length-tabulate P.m w.0,
      last_same P w.0 (columns_of (tabulate P.m w.0)) (λ i l. sym (columns-tabulate P.m w.0 i l)) w.1,
    )

module _ (m : RobustModel) (model : IsModel m) (inside : List Fraction) (admitted : Admits m inside) where
  -- ---- one form
  module _ (z : List Fraction) (size : length z ≡ form_columns m) where
    -- the form is kept, with amounts; or it is not, and gives the cut where it is the first
    abbrev Tells : ℕ → Type 0
    Tells i =
        ((amounts : List Fraction) × IsKept m z i amounts)
        ⊎ (¬ (KeepsForm m z i) × (((j : ℕ) → j < i → KeepsForm m z j) → (c : Cut) × CutsOff m z c))

    module _ (i : ℕ) (some : i < length (matrices m)) (basis : List ℕ) (count : length basis ≡ (search_at m i z).m)
        (last : Last (search_at m i z) (columns_of basis)) where
      by_scenario : (rows : Matrix) (x y : ℕ → Fraction)
          → OptimalEnding (search_at m i z) (own_at (search_at m i z) basis) rows x y → Tells i
      by_scenario rows x y en =
          let found : FindsScenario m i z basis (scenario_read m x) (row_amounts m y) =
          record {
            size = count;
            last = last;
            rows = rows;
            point = x;
            duals = y;
            ending = en;
            scenario_is = refl;
            amounts_are = refl;
          } in
          elim (Q.le_total_ℚ (form_at m i 1ℚ (scenario_read m x) z) 0ℚ) [
            | inl h ↦ inl (
              row_amounts m y,
              record {
                basis = basis;
                scenario = scenario_read m x;
                found = found;
                kept = h;
              },
            )
            | inr h ↦ inr (
              (λ k. Q.not_lt_ℚ (form_at m i 1ℚ (scenario_read m x) z) 0ℚ
                  (k (scenario_read m x)
                  (found_worst m model i some z size basis (scenario_read m x) (row_amounts m y) found).admitted)
                  h),
              (λ first. (
                record { form = i; base = pos (denominator (scenario_read m x)); vector = wholes (scenario_read m x) },
                scenario_cuts_off m model z size (record {
                  form = i;
                  base = pos (denominator (scenario_read m x));
                  vector = wholes (scenario_read m x);
                }) some
                    first
                    (record {
                      basis = basis;
                      scenario = scenario_read m x;
                      amounts = row_amounts m y;
                      found = found;
                      base_is = refl;
                      vector_is = refl;
                    }) h,
              )),
            )
          ]

      by_ray : (rows : Matrix) (column : ℕ) (x r : ℕ → Fraction) → Enters (system_of (search_at m i z)) rows column
          → UnboundedEnding (search_at m i z) (own_at (search_at m i z) basis) rows column x r → Tells i
      by_ray rows column x r enters en =
          let found : FindsRay m i z basis column (scenario_read m r) =
          record {
            size = count;
            last = last;
            rows = rows;
            point = x;
            move = r;
            entering = enters;
            ending = en;
            ray_is = refl;
          } in
          inr (
            ray_not_kept m model i some z size basis column (scenario_read m r) found,
            (λ first. (
              record { form = i; base = pos 0; vector = wholes (scenario_read m r) },
              ray_cuts_off m model z size (record {
                form = i;
                base = pos 0;
                vector = wholes (scenario_read m r);
              }) some first
                  (record {
                    basis = basis;
                    column = column;
                    ray = scenario_read m r;
                    found = found;
                    base_is = refl;
                    vector_is = refl;
                  }),
            )),
          )

      by_ending : EndsAtOptimum (search_at m i z) (columns_of basis)
          ⊎ (EndsAtRay (search_at m i z) (columns_of basis)
          ⊎ EndsInFirstPhase (search_at m i z) (columns_of basis))
          → Tells i
      by_ending (inl e) =
          let q : (x : ℕ → Fraction) × (y : ℕ → Fraction)
          × OptimalEnding (search_at m i z) (own_at (search_at m i z) basis) e.0 x y =
          optimal_exists (search_at m i z) (own_at (search_at m i z) basis) e.0 e.1 e.2 in
          by_scenario e.0 q.0 q.1 q.2
      by_ending (inr (inl e)) =
          let q : (x : ℕ → Fraction) × (r : ℕ → Fraction)
          × UnboundedEnding (search_at m i z) (own_at (search_at m i z) basis) e.0 e.1 x r =
          unbounded_exists (search_at m i z) (own_at (search_at m i z) basis) e.0 e.1 e.2 e.4 in
          by_ray e.0 e.1 q.0 q.1 e.3 q.2
      by_ending (inr (inr e)) =
          let w = search_infeasible m i (at (wholes z)) (columns_of basis) last e in
          absurd (not_infeasible m model inside admitted (own_of (auxiliary_of (search_at m i z)) (columns_of basis))
          w.1.0 (record { basis = w.1.2; ends = w.1.3 }))

    pub search_tells : (i : ℕ) → i < length (matrices m) → Tells i
    search_tells i some =
        let w : (basis : List ℕ) × (length basis ≡ (search_at m i z).m) × Last (search_at m i z) (columns_of basis) =
        last_list (search_at m i z) in
        by_ending i some w.0 w.1 w.2 (last_ends (search_at m i z) (columns_of w.0) w.2)

    kept_keeps : (i : ℕ) → i < length (matrices m) → (amounts : List Fraction) → IsKept m z i amounts → KeepsForm m z i
    kept_keeps i some amounts k = found_keeps m model i some z size k.basis k.scenario amounts k.found k.kept

    -- ---- all forms, in order
    with_more : ℕ → List Fraction → (ℕ → List Fraction) → ℕ → List Fraction
    with_more n new amounts i = cond (nat_eq i n) new (amounts i)

    with_more_at : (n : ℕ) (new : List Fraction) (amounts : ℕ → List Fraction) → with_more n new amounts n ≡ new
    unfolding with_more
    with_more_at n new amounts = grind (arith, nat_tests)

    with_more_low : (n : ℕ) (new : List Fraction) (amounts : ℕ → List Fraction) (i : ℕ) → i < n
        → with_more n new amounts i ≡ amounts i
    unfolding with_more
    with_more_low n new amounts i l = grind (arith, nat_tests)

    first_forms : (n : ℕ) → (n ≡ length (matrices m)) ⊎ (n < length (matrices m))
        → ((amounts : ℕ → List Fraction) × ((i : ℕ) → i < n → IsKept m z i (amounts i)))
        ⊎ (((c : Cut) × CutsOff m z c) × ¬ (KeepsForms m z))
    first_forms zero l = inl ((λ i. []), (λ i il. absurd (omega arith)))
    first_forms (suc n) l =
        let nl : n < length (matrices m) = elim l [ inl e ↦ omega arith | inr h ↦ omega arith ] in
        elim (first_forms n (inr nl)) [
          | inr c ↦ inr c
          | inl a ↦ elim (search_tells n nl) [
            | inl k ↦ inl (
              with_more n k.0 a.0,
              (λ i il. elim (cases_eq i n) [
                | inl e ↦
                    subst (λ v. IsKept m z v (with_more n k.0 a.0 v)) (sym e)
                    (subst (λ (v : List Fraction). IsKept m z n v) (sym (with_more_at n k.0 a.0)) k.1)
                | inr e ↦ subst (λ (v : List Fraction). IsKept m z i v)
                    (sym (with_more_low n k.0 a.0 i (omega arith))) (a.1 i (omega arith))
              ]),
            )
            | inr b ↦ inr (b.1 (λ j jl. kept_keeps j (omega arith) (a.0 j) (a.1 j jl)), (λ h. b.0 (h n nl)))
          ]
        ]

    -- all forms are kept, with amounts, or one is cut off
    pub forms_tell : ((amounts : ℕ → List Fraction) × AreKept m z amounts)
        ⊎ (((c : Cut) × CutsOff m z c) × ¬ (KeepsForms m z))
    forms_tell = first_forms (length (matrices m)) (inl refl)

    pub kept_keep : (amounts : ℕ → List Fraction) → AreKept m z amounts → KeepsForms m z
    kept_keep amounts k i some = kept_keeps i some (amounts i) (k i some)

    -- forms that are kept have amounts
    pub keep_amounts : KeepsForms m z → (amounts : ℕ → List Fraction) × AreKept m z amounts
    keep_amounts h = elim forms_tell [ inl k ↦ k | inr c ↦ absurd (c.1 h) ]

  -- ---- the next round
  module _ (cuts : List Cut) where
    -- the run is finished, or has a next round
    abbrev pub GoesOn : Type 0
    GoesOn = ((basis : List ℕ) × (status : Status) × IsFinished m cuts basis status) ⊎ ((r : Round) × IsRound m cuts r)

    module _ (basis : List ℕ) (count : length basis ≡ length cuts)
        (last : Last (master_over m cuts) (columns_of basis)) where
      at_best : (x y : ℕ → Fraction) → MasterIsOptimal m cuts basis x y → GoesOn
      at_best x y o =
          elim (forms_tell (plan_at m x) (length-plan_at m x)) [
            | inl k ↦ inl (basis, optimal, (x, y, o, kept_keep (plan_at m x) (length-plan_at m x) k.0 k.1))
            | inr c ↦ inr (record { kind = best; by_step = false; basis = basis; cut = c.0.0 }, (x, y, o, c.0.1))
          ]

      at_ray : (column : ℕ) (x r : ℕ → Fraction) → MasterIsUnbounded m cuts basis column x r → GoesOn
      at_ray column x r o =
          elim (forms_tell (direction_at m r) (length-direction_at m r)) [
            | inl s ↦
                let held : KeepsForms m (direction_at m r) =
                kept_keep (direction_at m r) (length-direction_at m r) s.0 s.1 in
                elim (forms_tell (plan_at m x) (length-plan_at m x)) [
                  | inl k ↦ inl (
                    basis,
                    unbounded,
                    (column, x, r, o, kept_keep (plan_at m x) (length-plan_at m x) k.0 k.1, held),
                  )
                  | inr c ↦ inr (
                    record {
                      kind = boundless column;
                      by_step = false;
                      basis = basis;
                      cut = c.0.0;
                    },
                    (x, r, o, held, c.0.1),
                  )
                ]
            | inr c ↦ inr (
              record {
                kind = boundless column;
                by_step = true;
                basis = basis;
                cut = c.0.0;
              },
              (x, r, o, c.0.1),
            )
          ]

      by_master : EndsAtOptimum (master_over m cuts) (columns_of basis)
          ⊎ (EndsAtRay (master_over m cuts) (columns_of basis)
          ⊎ EndsInFirstPhase (master_over m cuts) (columns_of basis))
          → GoesOn
      by_master (inl e) =
          let q : (x : ℕ → Fraction) × (y : ℕ → Fraction)
          × OptimalEnding (master_over m cuts) (own_at (master_over m cuts) basis) e.0 x y =
          optimal_exists (master_over m cuts) (own_at (master_over m cuts) basis) e.0 e.1 e.2 in
          at_best q.0 q.1 (record { size = count; last = last; rows = e.0; ending = q.2 })
      by_master (inr (inl e)) =
          let q : (x : ℕ → Fraction) × (r : ℕ → Fraction)
          × UnboundedEnding (master_over m cuts) (own_at (master_over m cuts) basis) e.0 e.1 x r =
          unbounded_exists (master_over m cuts) (own_at (master_over m cuts) basis) e.0 e.1 e.2 e.4 in
          at_ray e.1 q.0 q.1 (record { size = count; last = last; rows = e.0; entering = e.3; ending = q.2 })
      by_master (inr (inr e)) =
          inl (
            basis,
            infeasible,
            (e.0, record { size = count; last = last; ending = record { basis = e.2; ends = e.3 } }),
          )

    pub goes_on : GoesOn
    goes_on =
        let w : (basis : List ℕ) × (length basis ≡ length cuts) × Last (master_over m cuts) (columns_of basis) =
        last_list (master_over m cuts) in
        by_master w.0 w.1 w.2 (last_ends (master_over m cuts) (columns_of w.0) w.2)
