-- Whether a scenario is admitted: the last basis of the set's program decides.
use Rattle.std.proofs.Common.{◌≡◌, ℕ, subst, inl, inr, ◌⊎◌}
use Rattle.rob_algebra.specs.Fraction.{Fraction}
use Rattle.rob_linear.specs.Vectors.{Columns, Matrix}
use Rattle.rob_linear.specs.Programs.{Program, system_of, auxiliary_of}
use Rattle.rob_linear.specs.Systems.{IsBasis, Feasible}
use Rattle.rob_linear.specs.Turns.{own_of}
use Rattle.rob_linear.specs.Paths.{Last, EndsAtOptimum, EndsAtRay, EndsInFirstPhase}
use Rattle.rob_linear.specs.Optimality.{IsFeasible, IsInfeasible, IsOptimal, IsBasicPoint}
use Rattle.rob_linear.proofs.Meaning.Truths.{infeasible}
use Rattle.rob_linear.proofs.Meaning.Optimality.{farkas, optimal_ending, unbounded_ending}
use Rattle.rob_linear.proofs.BasisPaths.LastBases.{last_ends, last_exists}
use Rattle.rob_meaning.specs.RobustModel.{RobustModel}
use Rattle.rob_meaning.specs.UncertaintySet.{Admits, IsEmptySet}
use Rattle.rob_meaning.specs.WellFormed.{IsModel}
use Rattle.rob_meaning.proofs.Conditions.EmptyLemmas.{shows_empty}
use Rattle.rob_counterpart.specs.Counterpart.{set_program}
use Rattle.rob_counterpart.specs.Endings.{slack_entries, InfeasibleEnding, OptimalEnding, UnboundedEnding}
use Rattle.rob_counterpart.specs.ReadCertificates.{scenario_read, weights_read}
use Rattle.rob_counterpart.specs.SamePrograms.{AreSame}
use Rattle.rob_counterpart.proofs.Proving.CompletenessLemmas.{optimal_exists, unbounded_exists}
use Rattle.rob_counterpart.proofs.Positions.SamePaths.{infeasible_same}
use Rattle.rob_counterpart.proofs.Positions.SameSystems.{systems_same}
use Rattle.rob_counterpart.proofs.Sets.ScenarioLemmas.{set_weights, basis_admitted}

module _ (m : RobustModel) (model : IsModel m) (P : Program) (same : AreSame P (set_program m)) where
  scenario : (own : Columns) (rows : Matrix) (x : ℕ → Fraction) → IsBasis (system_of P) own rows
      → Feasible (system_of P) rows
      → IsBasicPoint (system_of P) own rows x → Admits m (scenario_read m x)
  scenario own rows x b f p =
      let e : system_of P ≡ system_of (set_program m) = systems_same P (set_program m) same in
      basis_admitted m model own rows x (subst (λ S. IsBasis S own rows) e b) (subst (λ S. Feasible S rows) e f)
      (subst (λ S. IsBasicPoint S own rows x) e p)

  -- the last basis shows a feasible point that is a scenario, or that there is none
  abbrev Decided : Type 0
  Decided = ((x : ℕ → Fraction) × IsFeasible P x × Admits m (scenario_read m x)) ⊎ (IsInfeasible P × IsEmptySet m)

  told : (basis : Columns) → EndsAtOptimum P basis ⊎ (EndsAtRay P basis ⊎ EndsInFirstPhase P basis) → Decided
  told basis (inl e) =
      let own : Columns = own_of (system_of P) basis in
      let o : (x : ℕ → Fraction) × (y : ℕ → Fraction) × OptimalEnding P own e.0 x y =
      optimal_exists P own e.0 e.1 e.2 in
      let best : IsOptimal P o.0 = optimal_ending P own e.0 o.0 e.1 e.2 o.2.point in
      inl (o.0, best.feasible, scenario own e.0 o.0 e.1 e.2.feasible o.2.point)
  told basis (inr (inl e)) =
      let own : Columns = own_of (system_of P) basis in
      let u : (x : ℕ → Fraction) × (r : ℕ → Fraction) × UnboundedEnding P own e.0 e.1 x r =
      unbounded_exists P own e.0 e.1 e.2 e.4 in
      inl (
        u.0,
        (unbounded_ending P own e.0 e.1 u.0 u.1 e.2 e.4 u.2.point u.2.move).0,
        scenario own e.0 u.0 e.2 e.4.feasible u.2.point,
      )
  told basis (inr (inr e)) =
      let own : Columns = own_of (auxiliary_of P) basis in
      let ending : InfeasibleEnding P own e.0 = record { basis = e.2; ends = e.3 } in
      inr (
        farkas P (slack_entries P e.0) (infeasible P own e.0 e.2 e.3.no_improving e.3.below),
        shows_empty m model (weights_read m e.0)
            (set_weights m own e.0 (infeasible_same P (set_program m) same own e.0 ending)),
      )

  decided : Decided
  decided = let l : (basis : Columns) × Last P basis = last_exists P in told l.0 (last_ends P l.0 l.1)

  pub empty_where_infeasible : IsInfeasible P → IsEmptySet m
  empty_where_infeasible none = elim decided [ inl f ↦ absurd (none f.0 f.1) | inr e ↦ e.1 ]

  pub infeasible_where_empty : IsEmptySet m → IsInfeasible P
  infeasible_where_empty none = elim decided [ inl f ↦ absurd (none (scenario_read m f.0) f.2) | inr e ↦ e.0 ]
