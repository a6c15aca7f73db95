-- Each model has a scenario or weights that show that it has none; and each model with a scenario has a certificate
-- that proves, so one of the three statuses. From the last bases of the set's program and of the counterpart.
use Rattle.std.proofs.Common.{◌≡◌, ℕ, List, refl, sym, ap, ◌∙◌, arith, inl, inr, ◌⊎◌}
use lib.IntN.{ℤ, neg_ℤ}
use Rattle.rob_algebra.specs.Fraction.{Fraction}
use Rattle.rob_algebra.specs.Integer.{mul-neg}
use Rattle.rob_linear.specs.Vectors.{Columns, Matrix}
use Rattle.rob_linear.specs.Systems.{IsBasis, Feasible, Move, EndsOptimal, EndsUnbounded}
use Rattle.rob_linear.specs.Programs.{Program, system_of, auxiliary_of}
use Rattle.rob_linear.specs.Turns.{own_of}
use Rattle.rob_linear.specs.Paths.{Last, EndsAtOptimum, EndsAtRay, EndsInFirstPhase}
use Rattle.rob_linear.specs.Optimality.{IsBasicPoint, IsBasicMove}
use Rattle.rob_linear.proofs.Meaning.Endings.{own_positive, improving_not_basic}
use Rattle.rob_linear.proofs.Bases.Unique.{move_exists}
use Rattle.rob_linear.proofs.Meaning.Fundamental.{basic_point_exists}
use Rattle.rob_linear.proofs.BasisPaths.LastBases.{last_ends, last_exists}
use Rattle.rob_meaning.specs.RobustModel.{RobustModel}
use Rattle.rob_meaning.specs.UncertaintySet.{Admits}
use Rattle.rob_meaning.specs.WellFormed.{IsModel}
use Rattle.rob_meaning.specs.Status.{IsOptimal, IsInfeasible, IsUnbounded}
use Rattle.rob_meaning.specs.Multipliers.{ShowsEmpty}
use Rattle.rob_meaning.specs.Certificates.{Status, optimal, infeasible, unbounded, Certificate}
use Rattle.rob_meaning.specs.Proves.{Proves, HasStatus}
use Rattle.rob_meaning.proofs.Proving.ProvesLemmas.{certificate_true}
use Rattle.rob_counterpart.specs.Endings.{slack_entries, objective_entry, OptimalEnding, UnboundedEnding}
use Rattle.rob_counterpart.specs.Counterpart.{set_program, counterpart}
use Rattle.rob_counterpart.specs.ReadCertificates.{scenario_read, weights_read, optimal_read, infeasible_read, unbounded_read}
use Rattle.rob_counterpart.proofs.Pairs.QuotientLemmas.{over, over-mul, over-zero, over-self, times-over}
use Rattle.rob_counterpart.proofs.Pairs.OppositeColumns.{nonbasic_all}
use Rattle.rob_counterpart.proofs.Sets.ScenarioLemmas.{set_weights, basis_admitted}
use Rattle.rob_counterpart.proofs.Proving.CertificateLemmas.{read_optimal_proves, read_infeasible_proves, read_unbounded_proves, optimal_is_read, infeasible_is_read, unbounded_is_read}

-- ---- the numbers of an ending exist
pub optimal_exists : (P : Program) (own : Columns) (rows : Matrix) → IsBasis (system_of P) own rows
    → EndsOptimal (system_of P) rows
    → (x : ℕ → Fraction) × (y : ℕ → Fraction) × OptimalEnding P own rows x y
optimal_exists P own rows b e =
    let x : (x : ℕ → Fraction) × IsBasicPoint (system_of P) own rows x =
    basic_point_exists (system_of P) own rows b in (
      x.0,
      (λ t. over (slack_entries P rows t) (objective_entry P rows)),
      record {
        basis = b;
        ends = e;
        point = x.1;
        duals = λ t l. times-over (slack_entries P rows t) (objective_entry P rows)
            (own_positive (system_of P) own rows b);
      },
    )

move_over : (P : Program) (own : Columns) (rows : Matrix) (col : ℕ) (t : ℤ) (w : ℕ → ℤ) → IsBasis (system_of P) own rows
    → Move (system_of P) own rows col t w → IsBasicMove (system_of P) own rows col (λ k. over (w k) t)
move_over P own rows col t w b v = record {
  entering = ap (λ z. over z t) v.entering ∙ over-self t v.scale;
  basic = λ i l.
      sym (over-mul (rows i (own i)) (w (own i)) t)
      ∙ ap (λ z. over z t) (v.basic i (omega arith) ∙ sym (mul-neg t (rows i col)))
      ∙ over-mul t (neg_ℤ (rows i col)) t ∙ times-over (neg_ℤ (rows i col)) t v.scale;
  rest = λ k l out ne. ap (λ z. over z t) (v.rest k (omega arith) (nonbasic_all (system_of P) own k b.last l out) ne)
      ∙ over-zero t;
}

pub unbounded_exists : (P : Program) (own : Columns) (rows : Matrix) (column : ℕ) → IsBasis (system_of P) own rows
    → EndsUnbounded (system_of P) own rows column → (x : ℕ → Fraction) × (r : ℕ → Fraction)
    × UnboundedEnding P own rows column x r
unbounded_exists P own rows column b e =
    let x : (x : ℕ → Fraction) × IsBasicPoint (system_of P) own rows x = basic_point_exists (system_of P) own rows b in
    let v : (t : ℤ) × (w : ℕ → ℤ) × Move (system_of P) own rows column t w =
    move_exists (system_of P) own rows column b
    (improving_not_basic (system_of P) own rows column b e.inside e.improving) in (
      x.0,
      (λ k. over (v.1 k) v.0),
      record { basis = b; ends = e; point = x.1; move = move_over P own rows column v.0 v.1 b v.2 },
    )

module _ (m : RobustModel) (model : IsModel m) where
  -- a scenario, or weights that show that there is none
  pub scenario_or_weights : ((u : List Fraction) × Admits m u) ⊎ ((weights : List Fraction) × ShowsEmpty m weights)
  scenario_or_weights = by (last_exists (set_program m))
    where
      feasible : (own : Columns) (rows : Matrix) → IsBasis (system_of (set_program m)) own rows
          → Feasible (system_of (set_program m)) rows → (u : List Fraction) × Admits m u
      feasible own rows b f =
          let x : (x : ℕ → Fraction) × IsBasicPoint (system_of (set_program m)) own rows x =
          basic_point_exists (system_of (set_program m)) own rows b in
          (scenario_read m x.0, basis_admitted m model own rows x.0 b f x.1)

      told : (basis : Columns) → EndsAtOptimum (set_program m) basis
          ⊎ (EndsAtRay (set_program m) basis ⊎ EndsInFirstPhase (set_program m) basis)
          → ((u : List Fraction) × Admits m u) ⊎ ((weights : List Fraction) × ShowsEmpty m weights)
      told basis (inl e) = inl (feasible (own_of (system_of (set_program m)) basis) e.0 e.1 e.2.feasible)
      told basis (inr (inl e)) = inl (feasible (own_of (system_of (set_program m)) basis) e.0 e.2 e.4.feasible)
      told basis (inr (inr e)) =
          inr (
            weights_read m e.0,
            set_weights m (own_of (auxiliary_of (set_program m)) basis) e.0 (record { basis = e.2; ends = e.3 }),
          )

      by : ((basis : Columns) × Last (set_program m) basis) → ((u : List Fraction) × Admits m u)
          ⊎ ((weights : List Fraction) × ShowsEmpty m weights)
      by l = told l.0 (last_ends (set_program m) l.0 l.1)

  -- with a scenario, a certificate that proves
  pub some_certificate : (inside : List Fraction) → Admits m inside → (c : Certificate)
      × (c.inside ≡ inside) × Proves m c
  some_certificate inside admitted = by (last_exists (counterpart m))
    where
      told : (basis : Columns) → EndsAtOptimum (counterpart m) basis
          ⊎ (EndsAtRay (counterpart m) basis ⊎ EndsInFirstPhase (counterpart m) basis)
          → (c : Certificate) × (c.inside ≡ inside) × Proves m c
      told basis (inl e) =
          let q : (x : ℕ → Fraction) × (y : ℕ → Fraction)
          × OptimalEnding (counterpart m) (own_of (system_of (counterpart m)) basis) e.0 x y =
          optimal_exists (counterpart m) (own_of (system_of (counterpart m)) basis) e.0 e.1 e.2 in (
            optimal_read m inside q.0 q.1,
            refl,
            read_optimal_proves m model (own_of (system_of (counterpart m)) basis) e.0
                (optimal_read m inside q.0 q.1) admitted q.0 q.1
                (optimal_is_read m inside (own_of (system_of (counterpart m)) basis) e.0 q.0 q.1 q.2),
          )
      told basis (inr (inl e)) =
          let q : (x : ℕ → Fraction) × (r : ℕ → Fraction)
          × UnboundedEnding (counterpart m) (own_of (system_of (counterpart m)) basis) e.0 e.1 x r =
          unbounded_exists (counterpart m) (own_of (system_of (counterpart m)) basis) e.0 e.1 e.2 e.4 in (
            unbounded_read m inside q.0 q.1,
            refl,
            read_unbounded_proves m model (own_of (system_of (counterpart m)) basis) e.0
                (unbounded_read m inside q.0 q.1) admitted e.1 q.0 q.1
                (unbounded_is_read m inside (own_of (system_of (counterpart m)) basis) e.0 e.1 q.0 q.1 q.2),
          )
      told basis (inr (inr e)) = (
        infeasible_read m inside e.0,
        refl,
        read_infeasible_proves m model (own_of (auxiliary_of (counterpart m)) basis) e.0
            (infeasible_read m inside e.0) admitted
            (infeasible_is_read m inside (own_of (auxiliary_of (counterpart m)) basis) e.0
            (record { basis = e.2; ends = e.3 })),
      )

      by : ((basis : Columns) × Last (counterpart m) basis) → (c : Certificate) × (c.inside ≡ inside) × Proves m c
      by l = told l.0 (last_ends (counterpart m) l.0 l.1)

  -- and so one of the three statuses
  pub some_status : (inside : List Fraction) → Admits m inside → ((v : Fraction) × IsOptimal m v)
      ⊎ (IsInfeasible m ⊎ IsUnbounded m)
  some_status inside admitted = by (some_certificate inside admitted)
    where
      told : (status : Status) (v : Fraction) → HasStatus m status v → ((v : Fraction) × IsOptimal m v)
          ⊎ (IsInfeasible m ⊎ IsUnbounded m)
      told optimal v h = inl (v, h)
      told infeasible v h = inr (inl h)
      told unbounded v h = inr (inr h)

      by : ((c : Certificate) × (c.inside ≡ inside) × Proves m c) → ((v : Fraction) × IsOptimal m v)
          ⊎ (IsInfeasible m ⊎ IsUnbounded m)
      by w = told w.0.status w.0.value (certificate_true m model w.0 w.2)
