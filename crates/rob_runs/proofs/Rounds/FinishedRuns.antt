-- Runs are finite, each run can be continued to a finished one, and a finished run tells the model's status.
use Rattle.std.proofs.Common.{◌≡◌, ℕ, zero, suc, ◌+◌, ◌<◌, ◌≤◌, List, [], ◌∷◌, ◌++◌, length, length-append, refl, sym, ap, subst, arith, inl, inr, ◌⊎◌, Bool, true, false}
use Rattle.std.proofs.lemmas.List.{length-map}
use Rattle.rob_algebra.specs.Fraction.{Fraction, ◌*ℚ◌}
use Rattle.rob_meaning.specs.Certificates.{Status, optimal, infeasible, unbounded, Certificate}
use Rattle.rob_meaning.specs.Places.{0ℚ, 1ℚ, Each}
use Rattle.rob_meaning.specs.Proves.{Proves, HasStatus}
use Rattle.rob_meaning.specs.RobustModel.{RobustModel}
use Rattle.rob_meaning.specs.Status.{IsOptimal}
use Rattle.rob_meaning.specs.UncertaintySet.{Admits}
use Rattle.rob_meaning.specs.Vectors.{scale}
use Rattle.rob_meaning.specs.WellFormed.{IsModel}
use Rattle.rob_meaning.proofs.Proving.ProvesLemmas.{certificate_true}
use Rattle.rob_counterpart.specs.ReadCertificates.{plan_read, bound_read, weight_of}
use Rattle.rob_runs.specs.Cuts.{Cut, IsCut, master_over, IsWithin, cut_limit}
use Rattle.rob_runs.specs.Searches.{basic_cut_limit}
use Rattle.rob_runs.specs.Runs.{MasterIsOptimal, plan_at, direction_at, KeepsForms, CutsOff, RoundKind, best, boundless, Round, IsRoundOf, IsRound, trace_cuts, IsRunFrom, IsRun, IsFinished}
use Rattle.rob_runs.specs.Readings.{covers_of_amounts, run_items, cleared_by, IsReadOff, AreKept, IsReadAs}
use Rattle.rob_runs.proofs.Rounds.CutLemmas.{each_more, distinct_more}
use Rattle.rob_runs.proofs.Proving.CoverLists.{covers_give_amounts}
use Rattle.rob_runs.proofs.Rounds.ProgressLemmas.{round_is_new, run_cuts, run_distinct, run_more}
use Rattle.rob_runs.proofs.Rounds.LimitLemmas.{few_cuts}
use Rattle.rob_runs.proofs.Searching.BasicCuts.{few_basic, IsBasicSomewhere}
use Rattle.rob_runs.proofs.Rounds.NextRounds.{keep_amounts, kept_keep, goes_on}
use Rattle.rob_runs.proofs.Proving.RunCertificates.{read_off_proves, length-plan_at, length-direction_at}

module _ (m : RobustModel) where
  -- ---- runs are finite
  off_basic : (z : List Fraction) (c : Cut) → CutsOff m z c → IsBasicSomewhere m c
  off_basic z c o = (o.is_cut.form_in, z, o.basic)

  round_of_basic : (cuts : List Cut) (basis : List ℕ) (c : Cut) (kind : RoundKind) (by_step : Bool)
      → IsRoundOf m cuts basis c kind by_step → IsBasicSomewhere m c
  round_of_basic cuts basis c best false r = off_basic (plan_at m r.0) c r.3
  round_of_basic cuts basis c best true r = absurd r
  round_of_basic cuts basis c (boundless column) true r = off_basic (direction_at m r.1) c r.3
  round_of_basic cuts basis c (boundless column) false r = off_basic (plan_at m r.0) c r.4

  run_from_basic : (cuts : List Cut) (trace : List Round) → IsRunFrom m cuts trace
      → Each (IsBasicSomewhere m) (trace_cuts trace)
  run_from_basic cuts [] run = tt
  run_from_basic cuts (r ∷ trace) run =
      (round_of_basic cuts r.basis r.cut r.kind r.by_step run.0, run_from_basic (cuts ++ r.cut ∷ []) trace run.1)

  pub run_few : (trace : List Round) → IsRun m trace → length trace ≤ basic_cut_limit m
  run_few trace run =
      let e : length (trace_cuts trace) ≡ length trace = length-map trace (λ (r : Round). r.cut) in
      let l : length (trace_cuts trace) ≤ basic_cut_limit m =
      few_basic m (trace_cuts trace) (run_from_basic [] trace run) (run_distinct m trace run) in
      omega arith

  -- a round more is within a limit too
  pub run_room : (forms n limit : ℕ) (trace : List Round) (r : Round) → IsRun m trace → IsRound m (trace_cuts trace) r
      → Each (IsWithin forms n limit) (trace_cuts trace) → IsWithin forms n limit r.cut
      → length trace < cut_limit forms n limit
  run_room forms n limit trace r run next h k =
      let e : length (trace_cuts trace) ≡ length trace = length-map trace (λ (s : Round). s.cut) in
      let f : length (trace_cuts trace ++ r.cut ∷ []) ≡ length (trace_cuts trace) + 1 =
      length-append (trace_cuts trace) (r.cut ∷ []) in
      let l : length (trace_cuts trace ++ r.cut ∷ []) ≤ cut_limit forms n limit =
      few_cuts forms n limit (trace_cuts trace ++ r.cut ∷ [])
      (each_more (IsWithin forms n limit) (trace_cuts trace) r.cut h k)
      (distinct_more (trace_cuts trace) r.cut (run_distinct m trace run)
      (round_is_new m (trace_cuts trace) r (run_cuts m trace run) next)) in
      omega arith

  module _ (model : IsModel m) (inside : List Fraction) (admitted : Admits m inside) where
    -- ---- each run is finished or goes on
    abbrev pub Finished : List Round → Type 0
    Finished trace = (basis : List ℕ) × (status : Status) × IsFinished m (trace_cuts trace) basis status

    pub run_goes_on : (trace : List Round) → IsRun m trace → Finished trace
        ⊎ ((r : Round) × IsRound m (trace_cuts trace) r × IsRun m (trace ++ r ∷ []))
    run_goes_on trace run =
        elim (goes_on m model inside admitted (trace_cuts trace)) [
          | inl f ↦ inl f
          | inr r ↦ inr (r.0, r.1, run_more m trace r.0 run r.1)
        ]

    finish : (fuel : ℕ) (trace : List Round) → IsRun m trace → basic_cut_limit m ≤ length trace + fuel
        → (rest : List Round) × IsRun m (trace ++ rest) × Finished (trace ++ rest)
    finish zero trace run l =
        elim (run_goes_on trace run) [
          | inl f ↦ (
            [],
            subst (λ (v : List Round). IsRun m v) (sym (none trace)) run,
            subst (λ (v : List Round). Finished v) (sym (none trace)) f,
          )
          | inr r ↦
              let few : length (trace ++ r.0 ∷ []) ≤ basic_cut_limit m = run_few (trace ++ r.0 ∷ []) r.2 in
              let e : length (trace ++ r.0 ∷ []) ≡ length trace + 1 = length-append trace (r.0 ∷ []) in
              absurd (omega arith)
        ]
      where
        none : (xs : List Round) → xs ++ [] ≡ xs
        none [] = refl
        none (x ∷ xs) = ap (λ (ys : List Round). x ∷ ys) (none xs)
    finish (suc fuel) trace run l =
        elim (run_goes_on trace run) [
          | inl f ↦ (
            [],
            subst (λ (v : List Round). IsRun m v) (sym (none trace)) run,
            subst (λ (v : List Round). Finished v) (sym (none trace)) f,
          )
          | inr r ↦
              let e : length (trace ++ r.0 ∷ []) ≡ length trace + 1 = length-append trace (r.0 ∷ []) in
              let w : (rest : List Round) × IsRun m ((trace ++ r.0 ∷ []) ++ rest)
              × Finished ((trace ++ r.0 ∷ []) ++ rest) =
              finish fuel (trace ++ r.0 ∷ []) r.2 (omega arith) in (
                r.0 ∷ w.0,
                subst (λ (v : List Round). IsRun m v) (more trace r.0 w.0) w.1,
                subst (λ (v : List Round). Finished v) (more trace r.0 w.0) w.2,
              )
        ]
      where
        none : (xs : List Round) → xs ++ [] ≡ xs
        none [] = refl
        none (x ∷ xs) = ap (λ (ys : List Round). x ∷ ys) (none xs)

        more : (xs : List Round) (r : Round) (rest : List Round) → (xs ++ r ∷ []) ++ rest ≡ xs ++ (r ∷ rest)
        more [] r rest = refl
        more (x ∷ xs) r rest = ap (λ (ys : List Round). x ∷ ys) (more xs r rest)

    pub run_finishes : (trace : List Round) → IsRun m trace → (rest : List Round) × IsRun m (trace ++ rest)
        × Finished (trace ++ rest)
    run_finishes trace run = finish (basic_cut_limit m) trace run (omega arith)

    -- ---- the certificate of a finished run
    module _ (cuts : List Cut) (basis : List ℕ) where
      certificate : (status : Status) → IsFinished m cuts basis status
          → (c : Certificate) × (c.status ≡ status) × (c.inside ≡ inside) × IsReadOff m cuts basis c
      certificate optimal f =
          let k : (amounts : ℕ → List Fraction) × AreKept m (plan_at m f.0) amounts =
          keep_amounts m model inside admitted (plan_at m f.0) (length-plan_at m f.0) f.3 in (
            record {
              status = optimal;
              value = bound_read m f.0;
              scale = cleared_by (plan_at m f.0);
              inside = inside;
              plan = plan_read m f.0;
              step = [];
              step_bound = 0ℚ;
              covers = covers_of_amounts m k.0;
              holds = [];
              items = run_items m cuts f.1;
            },
            refl,
            refl,
            record {
              x = f.0;
              y = f.1;
              master = f.2;
              amounts = k.0;
              kept = k.1;
              status = refl;
              scale_is = refl;
              plan = refl;
              value = refl;
              covers = covers_give_amounts m k.0;
              items = refl;
            },
          )
      certificate infeasible f = (
        record {
          status = infeasible;
          value = 0ℚ;
          scale = 1ℚ;
          inside = inside;
          plan = [];
          step = [];
          step_bound = 0ℚ;
          covers = [];
          holds = [];
          items = run_items m cuts (weight_of (master_over m cuts) f.0);
        },
        refl,
        refl,
        record { rows = f.0; master = f.1; status = refl; scale_is = refl; items = refl },
      )
      certificate unbounded f =
          let k : (amounts : ℕ → List Fraction) × AreKept m (plan_at m f.1) amounts =
          keep_amounts m model inside admitted (plan_at m f.1) (length-plan_at m f.1) f.4 in
          let s : (amounts : ℕ → List Fraction) × AreKept m (direction_at m f.2) amounts =
          keep_amounts m model inside admitted (direction_at m f.2) (length-direction_at m f.2) f.5 in (
            record {
              status = unbounded;
              value = bound_read m f.1;
              scale = cleared_by (plan_at m f.1);
              inside = inside;
              plan = plan_read m f.1;
              step = scale (cleared_by (direction_at m f.2)) (plan_read m f.2);
              step_bound = cleared_by (direction_at m f.2) *ℚ bound_read m f.2;
              covers = covers_of_amounts m k.0;
              holds = covers_of_amounts m s.0;
              items = [];
            },
            refl,
            refl,
            record {
              column = f.0;
              x = f.1;
              r = f.2;
              master = f.3;
              amounts = k.0;
              kept = k.1;
              step_amounts = s.0;
              step_kept = s.1;
              status = refl;
              scale_is = refl;
              plan = refl;
              value = refl;
              covers = covers_give_amounts m k.0;
              step = refl;
              step_bound = refl;
              holds = covers_give_amounts m s.0;
              items = refl;
            },
          )

    pub finished_certificate : (cuts : List Cut) (basis : List ℕ) (status : Status) → Each (IsCut m) cuts
        → IsFinished m cuts basis status
        → (c : Certificate) × (c.status ≡ status) × (c.inside ≡ inside) × IsReadOff m cuts basis c × Proves m c
    finished_certificate cuts basis status h f =
        let w : (c : Certificate) × (c.status ≡ status) × (c.inside ≡ inside) × IsReadOff m cuts basis c =
        certificate cuts basis status f in (
          w.0,
          w.1,
          w.2,
          w.3,
          read_off_proves m model cuts h basis w.0 (subst (λ (v : List Fraction). Admits m v) (sym w.2) admitted) w.3,
        )

    -- the status is the model's
    pub finished_status : (cuts : List Cut) (basis : List ℕ) (status : Status) → Each (IsCut m) cuts
        → IsFinished m cuts basis status
        → (v : Fraction) × HasStatus m status v
    finished_status cuts basis status h f =
        let w : (c : Certificate) × (c.status ≡ status) × (c.inside ≡ inside) × IsReadOff m cuts basis c × Proves m c =
        finished_certificate cuts basis status h f in
        (w.0.value, subst (λ s. HasStatus m s w.0.value) w.1 (certificate_true m model w.0 w.4))

    -- and the bound of the last plan its value
    pub finished_value : (cuts : List Cut) (basis : List ℕ) → Each (IsCut m) cuts → (x y : ℕ → Fraction)
        → MasterIsOptimal m cuts basis x y
        → KeepsForms m (plan_at m x) → IsOptimal m (bound_read m x)
    unfolding certificate
    finished_value cuts basis h x y o k =
        let w : (c : Certificate) × (c.status ≡ optimal) × (c.inside ≡ inside) × IsReadOff m cuts basis c =
        certificate cuts basis optimal (x, y, o, k) in
        certificate_true m model w.0
        (read_off_proves m model cuts h basis w.0
        (subst (λ (v : List Fraction). Admits m v) (sym w.2) admitted) w.3)

-- ---- a certificate that is read off where a run ended shows that it is finished
module _ (m : RobustModel) (model : IsModel m) (inside : List Fraction) (admitted : Admits m inside) (cuts : List Cut)
    (basis : List ℕ) (c : Certificate) where
  as_finished : (status : Status) → IsReadAs status m cuts basis c → IsFinished m cuts basis status
  as_finished optimal r =
      (r.x, r.y, r.master, kept_keep m model inside admitted (plan_at m r.x) (length-plan_at m r.x) r.amounts r.kept)
  as_finished infeasible r = (r.rows, r.master)
  as_finished unbounded r = (
    r.column,
    r.x,
    r.r,
    r.master,
    kept_keep m model inside admitted (plan_at m r.x) (length-plan_at m r.x) r.amounts r.kept,
    kept_keep m model inside admitted (direction_at m r.r) (length-direction_at m r.r) r.step_amounts r.step_kept,
  )

  pub read_off_finished : IsReadOff m cuts basis c → IsFinished m cuts basis c.status
  read_off_finished r = as_finished c.status r
