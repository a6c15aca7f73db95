-- A finished run has no next round, so there is one finished run, with one status.
use Rattle.std.proofs.Common.{◌≡◌, ℕ, ◌+◌, List, [], ◌∷◌, ◌++◌, length, refl, sym, ap₂, subst, Bool, true, false}
use Rattle.rob_algebra.specs.Fraction.{Fraction}
use Rattle.rob_linear.specs.Vectors.{Matrix, columns_of}
use Rattle.rob_linear.specs.Programs.{Program, auxiliary_of}
use Rattle.rob_linear.specs.Paths.{Last}
use Rattle.rob_linear.specs.Turns.{own_of}
use Rattle.rob_linear.specs.Optimality.{IsFeasible}
use Rattle.rob_linear.proofs.Meaning.Optimality.{farkas, optimal_ending, unbounded_ending}
use Rattle.rob_linear.proofs.Meaning.Truths.{infeasible as shows_empty}
use Rattle.rob_meaning.specs.Certificates.{Status, optimal, infeasible, unbounded}
use Rattle.rob_meaning.specs.RobustModel.{RobustModel}
use Rattle.rob_meaning.specs.WellFormed.{IsModel}
use Rattle.rob_counterpart.specs.Endings.{InfeasibleEnding}
use Rattle.rob_runs.specs.Cuts.{Cut, master_over}
use Rattle.rob_runs.specs.Searches.{own_at}
use Rattle.rob_runs.specs.Runs.{MasterIsOptimal, MasterIsUnbounded, MasterIsInfeasible, plan_at, direction_at, RoundKind, best, boundless, Round, IsRoundOf, IsRound, trace_cuts, IsRunFrom, IsRun, IsFinished}
use Rattle.rob_runs.proofs.Rounds.OneRun.{one_last, one_round, one_plan, same_plan, same_direction, not_optimal_and_unbounded, not_held, basis_in}
use Rattle.rob_runs.proofs.Rounds.ProgressLemmas.{append_cut, append_none}
use Rattle.rob_runs.proofs.Proving.RunCertificates.{length-plan_at, length-direction_at}

module _ (P : Program) (basis : List ℕ) (rows : Matrix)
    (en : InfeasibleEnding P (own_of (auxiliary_of P) (columns_of basis)) rows) where
  -- an infeasible program has no point
  no_point : (x : ℕ → Fraction) → ¬ (IsFeasible P x)
  no_point = farkas P (λ t. rows P.m (P.n + t))
      (shows_empty P (own_of (auxiliary_of P) (columns_of basis)) rows en.basis en.ends.no_improving en.ends.below)

module _ (m : RobustModel) (cuts : List Cut) (basis : List ℕ) where
  not_infeasible_and_optimal : (rows : Matrix) (x y : ℕ → Fraction) → MasterIsInfeasible m cuts basis rows
      → ¬ (MasterIsOptimal m cuts basis x y)
  not_infeasible_and_optimal rows x y i o =
      no_point (master_over m cuts) basis rows i.ending x
      (optimal_ending (master_over m cuts) (own_at (master_over m cuts) basis) o.rows x o.ending.basis o.ending.ends
      o.ending.point).feasible

  not_infeasible_and_unbounded : (rows : Matrix) (column : ℕ) (x r : ℕ → Fraction)
      → MasterIsInfeasible m cuts basis rows → ¬ (MasterIsUnbounded m cuts basis column x r)
  not_infeasible_and_unbounded rows column x r i o =
      no_point (master_over m cuts) basis rows i.ending x
      (unbounded_ending (master_over m cuts) (own_at (master_over m cuts) basis) o.rows column x r o.ending.basis
      o.ending.ends o.ending.point o.ending.move).0

module _ (m : RobustModel) (model : IsModel m) where
  module _ (cuts : List Cut) where
    -- a finished master and a round at one basis
    at_one_basis : (basis : List ℕ) (status : Status) (c : Cut) (k : RoundKind) (s : Bool)
        → IsFinished m cuts basis status → ¬ (IsRoundOf m cuts basis c k s)
    at_one_basis basis status c best true f a = a
    at_one_basis basis optimal c best false f a =
        not_held m model cuts (plan_at m f.0) (plan_at m a.0) c (length-plan_at m f.0)
        (one_plan m model cuts basis f.0 f.1 a.0 a.1 f.2 a.2) f.3 a.3
    at_one_basis basis optimal c (boundless e) true f a =
        not_optimal_and_unbounded m model cuts basis f.0 f.1 e a.0 a.1 f.2 a.2
    at_one_basis basis optimal c (boundless e) false f a =
        not_optimal_and_unbounded m model cuts basis f.0 f.1 e a.0 a.1 f.2 a.2
    at_one_basis basis infeasible c best false f a = not_infeasible_and_optimal m cuts basis f.0 a.0 a.1 f.1 a.2
    at_one_basis basis infeasible c (boundless e) true f a =
        not_infeasible_and_unbounded m cuts basis f.0 e a.0 a.1 f.1 a.2
    at_one_basis basis infeasible c (boundless e) false f a =
        not_infeasible_and_unbounded m cuts basis f.0 e a.0 a.1 f.1 a.2
    at_one_basis basis unbounded c best false f a =
        not_optimal_and_unbounded m model cuts basis a.0 a.1 f.0 f.1 f.2 a.2 f.3
    at_one_basis basis unbounded c (boundless e) true f a =
        not_held m model cuts (direction_at m f.2) (direction_at m a.1) c (length-direction_at m f.2)
        (same_direction m model cuts basis f.0 e f.1 f.2 a.0 a.1 f.3 a.2) f.5 a.3
    at_one_basis basis unbounded c (boundless e) false f a =
        not_held m model cuts (plan_at m f.1) (plan_at m a.0) c (length-plan_at m f.1)
        (same_plan m model cuts basis f.0 e f.1 f.2 a.0 a.1 f.3 a.2) f.4 a.4

    finished_in : (basis : List ℕ) (status : Status) → IsFinished m cuts basis status → (length basis ≡ length cuts)
        × Last (master_over m cuts) (columns_of basis)
    finished_in basis optimal f = (f.2.size, f.2.last)
    finished_in basis infeasible f = (f.1.size, f.1.last)
    finished_in basis unbounded f = (f.3.size, f.3.last)

    -- no round comes after a finished run
    pub no_round_after : (basis : List ℕ) (status : Status) (r : Round)
        → IsFinished m cuts basis status → ¬ (IsRound m cuts r)
    no_round_after basis status r f a =
        let p : (length basis ≡ length cuts) × Last (master_over m cuts) (columns_of basis) =
        finished_in basis status f in
        let q : (length r.basis ≡ length cuts) × Last (master_over m cuts) (columns_of r.basis) =
        basis_in m model cuts r.basis r.cut r.kind r.by_step a in
        let e : r.basis ≡ basis = one_last (master_over m cuts) r.basis basis q.0 p.0 q.1 p.1 in
        at_one_basis basis status r.cut r.kind r.by_step f
        (subst (λ (v : List ℕ). IsRoundOf m cuts v r.cut r.kind r.by_step) e a)

  abbrev Done : List Cut → Type 0
  Done cuts = (basis : List ℕ) × (status : Status) × IsFinished m cuts basis status

  one_end_from : (cuts : List Cut) (trace trace' : List Round) → IsRunFrom m cuts trace → IsRunFrom m cuts trace'
      → Done (cuts ++ trace_cuts trace) → Done (cuts ++ trace_cuts trace') → trace ≡ trace'
  one_end_from cuts [] [] a b f g = refl
  one_end_from cuts [] (s ∷ trace') a b f g =
      let d : Done cuts = subst Done (append_none m cuts) f in absurd (no_round_after cuts d.0 d.1 s d.2 b.0)
  one_end_from cuts (r ∷ trace) [] a b f g =
      let d : Done cuts = subst Done (append_none m cuts) g in absurd (no_round_after cuts d.0 d.1 r d.2 a.0)
  one_end_from cuts (r ∷ trace) (s ∷ trace') a b f g =
      let e : r ≡ s = one_round m model cuts r s a.0 b.0 in
      ap₂ (λ v (vs : List Round). v ∷ vs) e
      (one_end_from (cuts ++ r.cut ∷ []) trace trace' a.1
      (subst (λ (v : Round). IsRunFrom m (cuts ++ v.cut ∷ []) trace') (sym e) b.1)
      (subst Done (sym (append_cut m cuts r.cut (trace_cuts trace))) f)
      (subst (λ (v : Round). Done ((cuts ++ v.cut ∷ []) ++ trace_cuts trace')) (sym e)
      (subst Done (sym (append_cut m cuts s.cut (trace_cuts trace'))) g)))

  -- two finished runs are one
  pub one_end : (trace trace' : List Round) (basis basis' : List ℕ) (status status' : Status)
      → IsRun m trace → IsRun m trace'
      → IsFinished m (trace_cuts trace) basis status → IsFinished m (trace_cuts trace') basis' status' → trace ≡ trace'
  one_end trace trace' basis basis' status status' a b f g =
      one_end_from [] trace trace' a b (basis, status, f) (basis', status', g)
