-- A master's plan and direction keep each of its cuts, and the next cut is broken, so it is new.
use Rattle.std.proofs.Common.{◌≡◌, ◌≢◌, ℕ, List, [], ◌∷◌, ◌++◌, refl, sym, ap, subst, Bool, true, false}
use Rattle.rob_algebra.specs.Fraction.{Fraction, ◌≤ℚ◌, ◌<ℚ◌}
use Rattle.rob_algebra.specs.FractionOrderLaws as Q
use Rattle.rob_meaning.specs.Places.{0ℚ, Each}
use Rattle.rob_meaning.specs.Named.{AreDistinct}
use Rattle.rob_meaning.specs.RobustModel.{RobustModel}
use Rattle.rob_counterpart.proofs.Searching.MasterEndings.{cuts_keep, cuts_keep_along}
use Rattle.rob_runs.specs.Cuts.{Cut, IsCut, cut_at, cuts_of, master_over}
use Rattle.rob_runs.specs.Searches.{own_at}
use Rattle.rob_runs.specs.Runs.{MasterIsOptimal, MasterIsUnbounded, plan_at, direction_at, RoundKind, best, boundless, Round, IsRoundOf, IsRound, trace_cuts, IsRunFrom, IsRun}
use Rattle.rob_runs.proofs.Rounds.CutLemmas.{are_cuts, kept_each, each_more, distinct_more}

module _ (m : RobustModel) where
  -- ---- what the plan and the direction of a master keep
  module _ (cuts : List Cut) (h : Each (IsCut m) cuts) (basis : List ℕ) where
    pub plan_keeps : (x y : ℕ → Fraction) → MasterIsOptimal m cuts basis x y
        → Each (λ c. cut_at m c (plan_at m x) ≤ℚ 0ℚ) cuts
    plan_keeps x y o =
        kept_each m cuts (plan_at m x) h (λ q l.
        cuts_keep m (cuts_of cuts) (are_cuts m cuts h) (own_at (master_over m cuts) basis) o.rows x y o.ending q l)

    pub unbounded_plan_keeps : (column : ℕ) (x r : ℕ → Fraction) → MasterIsUnbounded m cuts basis column x r
        → Each (λ c. cut_at m c (plan_at m x) ≤ℚ 0ℚ) cuts
    unbounded_plan_keeps column x r o =
        kept_each m cuts (plan_at m x) h (λ q l.
        (cuts_keep_along m (cuts_of cuts) (are_cuts m cuts h) (own_at (master_over m cuts) basis) o.rows
        column x r o.ending q l).0)

    pub direction_keeps : (column : ℕ) (x r : ℕ → Fraction) → MasterIsUnbounded m cuts basis column x r
        → Each (λ c. cut_at m c (direction_at m r) ≤ℚ 0ℚ) cuts
    direction_keeps column x r o =
        kept_each m cuts (direction_at m r) h (λ q l.
        (cuts_keep_along m (cuts_of cuts) (are_cuts m cuts h) (own_at (master_over m cuts) basis) o.rows
        column x r o.ending q l).1)

  -- a broken cut is none of those that are kept
  pub broken_is_new : (cuts : List Cut) (z : List Fraction) (c : Cut)
      → Each (λ d. cut_at m d z ≤ℚ 0ℚ) cuts → 0ℚ <ℚ cut_at m c z
      → Each (λ d. d ≢ c) cuts
  broken_is_new [] z c k b = tt
  broken_is_new (d ∷ cuts) z c k b = (
    (λ e. Q.not_lt_ℚ (cut_at m c z) 0ℚ (subst (λ (v : Cut). cut_at m v z ≤ℚ 0ℚ) e k.0) b),
    broken_is_new cuts z c k.1 b,
  )

  -- ---- rounds
  round_of_new : (cuts : List Cut) (basis : List ℕ) (c : Cut) (kind : RoundKind) (by_step : Bool) → Each (IsCut m) cuts
      → IsRoundOf m cuts basis c kind by_step → Each (λ d. d ≢ c) cuts
  round_of_new cuts basis c best false h r =
      broken_is_new cuts (plan_at m r.0) c (plan_keeps cuts h basis r.0 r.1 r.2) r.3.breaks
  round_of_new cuts basis c best true h r = absurd r
  round_of_new cuts basis c (boundless column) true h r =
      broken_is_new cuts (direction_at m r.1) c (direction_keeps cuts h basis column r.0 r.1 r.2) r.3.breaks
  round_of_new cuts basis c (boundless column) false h r =
      broken_is_new cuts (plan_at m r.0) c (unbounded_plan_keeps cuts h basis column r.0 r.1 r.2) r.4.breaks

  pub round_is_new : (cuts : List Cut) (r : Round) → Each (IsCut m) cuts → IsRound m cuts r → Each (λ c. c ≢ r.cut) cuts
  round_is_new cuts r h s = round_of_new cuts r.basis r.cut r.kind r.by_step h s

  round_of_cut : (cuts : List Cut) (basis : List ℕ) (c : Cut) (kind : RoundKind) (by_step : Bool)
      → IsRoundOf m cuts basis c kind by_step → IsCut m c
  round_of_cut cuts basis c best false r = r.3.is_cut
  round_of_cut cuts basis c best true r = absurd r
  round_of_cut cuts basis c (boundless column) true r = r.3.is_cut
  round_of_cut cuts basis c (boundless column) false r = r.4.is_cut

  pub round_cut : (cuts : List Cut) (r : Round) → IsRound m cuts r → IsCut m r.cut
  round_cut cuts r s = round_of_cut cuts r.basis r.cut r.kind r.by_step s

  -- ---- runs
  pub append_cut : (cuts : List Cut) (c : Cut) (rest : List Cut) → (cuts ++ c ∷ []) ++ rest ≡ cuts ++ (c ∷ rest)
  append_cut [] c rest = refl
  append_cut (d ∷ cuts) c rest = ap (λ (xs : List Cut). d ∷ xs) (append_cut cuts c rest)

  pub append_none : (cuts : List Cut) → cuts ++ [] ≡ cuts
  append_none [] = refl
  append_none (d ∷ cuts) = ap (λ (xs : List Cut). d ∷ xs) (append_none cuts)

  run_from_cuts : (cuts : List Cut) (trace : List Round) → Each (IsCut m) cuts → AreDistinct cuts
      → IsRunFrom m cuts trace
      → Each (IsCut m) (cuts ++ trace_cuts trace) × AreDistinct (cuts ++ trace_cuts trace)
  run_from_cuts cuts [] h d run = (
    subst (λ (v : List Cut). Each (IsCut m) v) (sym (append_none cuts)) h,
    subst (λ (v : List Cut). AreDistinct v) (sym (append_none cuts)) d,
  )
  run_from_cuts cuts (r ∷ trace) h d run =
      let w : Each (IsCut m) ((cuts ++ r.cut ∷ []) ++ trace_cuts trace)
      × AreDistinct ((cuts ++ r.cut ∷ []) ++ trace_cuts trace) =
      run_from_cuts (cuts ++ r.cut ∷ []) trace (each_more (IsCut m) cuts r.cut h (round_cut cuts r run.0))
      (distinct_more cuts r.cut d (round_is_new cuts r h run.0)) run.1 in (
        subst (λ (v : List Cut). Each (IsCut m) v) (append_cut cuts r.cut (trace_cuts trace)) w.0,
        subst (λ (v : List Cut). AreDistinct v) (append_cut cuts r.cut (trace_cuts trace)) w.1,
      )

  -- all cuts of a run are cuts, and no two are the same
  pub run_cuts : (trace : List Round) → IsRun m trace → Each (IsCut m) (trace_cuts trace)
  run_cuts trace run = (run_from_cuts [] trace tt tt run).0

  pub run_distinct : (trace : List Round) → IsRun m trace → AreDistinct (trace_cuts trace)
  run_distinct trace run = (run_from_cuts [] trace tt tt run).1

  run_from_more : (cuts : List Cut) (trace : List Round) (r : Round) → IsRunFrom m cuts trace
      → IsRound m (cuts ++ trace_cuts trace) r
      → IsRunFrom m cuts (trace ++ r ∷ [])
  run_from_more cuts [] r run s = (subst (λ (v : List Cut). IsRound m v r) (append_none cuts) s, tt)
  run_from_more cuts (q ∷ trace) r run s = (
    run.0,
    run_from_more (cuts ++ q.cut ∷ []) trace r run.1
        (subst (λ (v : List Cut). IsRound m v r) (sym (append_cut cuts q.cut (trace_cuts trace))) s),
  )

  -- a round more
  pub run_more : (trace : List Round) (r : Round) → IsRun m trace → IsRound m (trace_cuts trace) r
      → IsRun m (trace ++ r ∷ [])
  run_more trace r run s = run_from_more [] trace r run s
