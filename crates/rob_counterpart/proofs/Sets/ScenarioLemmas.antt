-- The program of a model's set: weights that show it to be empty, and the point of a feasible basis as a scenario.
use Rattle.std.proofs.Common.{◌≡◌, ℕ, ◌+◌, List, length, sym, ap, ◌∙◌, subst, arith}
use Rattle.std.proofs.lemmas.Int.{ints}
use lib.IntN.{ℤ, pos, ◌*ℤ◌}
use lib.Signed.{◌<ℤ◌}
use Rattle.rob_algebra.specs.Fraction.{Fraction, ◌<ℚ◌}
use Rattle.rob_linear.specs.Vectors.{Matrix, Columns, sum_to}
use Rattle.rob_linear.specs.Vectors as V
use Rattle.rob_linear.specs.Systems.{IsBasis, Feasible, Point}
use Rattle.rob_linear.specs.Programs.{Program, system_of}
use Rattle.rob_linear.specs.Optimality.{IsBasicPoint}
use Rattle.rob_linear.proofs.Bases.Unique.{point_exists}
use Rattle.rob_linear.proofs.Meaning.Optimality.{point_scaled}
use Rattle.rob_meaning.specs.Places.{0ℚ, tabulate}
use Rattle.rob_meaning.specs.Vectors.{dot, zeros, vec_mat}
use Rattle.rob_meaning.specs.RobustModel.{RobustModel}
use Rattle.rob_meaning.specs.SetRows.{set_rows, set_column_count}
use Rattle.rob_meaning.specs.UncertaintySet.{Admits}
use Rattle.rob_meaning.specs.SetConditions.{Meets}
use Rattle.rob_meaning.specs.WellFormed.{IsModel}
use Rattle.rob_meaning.specs.Multipliers.{set_matrix, set_limits, ShowsEmpty}
use Rattle.rob_meaning.proofs.Conditions.AdmittedLemmas.{meets_admits}
use Rattle.rob_counterpart.specs.SetPrograms.{IsOverSet}
use Rattle.rob_counterpart.proofs.Proving.EndingScales.{IsOver, difference-over}
use Rattle.rob_counterpart.specs.Splitting.{difference}
use Rattle.rob_counterpart.proofs.Proving.ScaledEndings.{pair}
use Rattle.rob_counterpart.specs.Endings.{slack_entries, InfeasibleEnding}
use Rattle.rob_counterpart.specs.Counterpart.{robust_of, set_program}
use Rattle.rob_counterpart.specs.ReadCertificates.{scenario_read, weight_of, weights_read}
use Rattle.rob_counterpart.proofs.Proving.WholeCertificates.{ShowsSetEmpty, LiesInSet}
use Rattle.rob_counterpart.proofs.Pairs.QuotientLemmas.{over, over-zero, over-one, over-self, over_from, over_nonneg, over_lt}
use Rattle.rob_counterpart.proofs.Pairs.TabulateLemmas.{length-tabulate, tabulate-same, zeros-tabulate, over-dot, vec_mat-over}
use Rattle.rob_counterpart.proofs.Sets.ModelLemmas.{set_matrix-tabulate, set_limits-tabulate}
use Rattle.rob_counterpart.proofs.Proving.CoverLemmas.{nonneg_tabulate}
use Rattle.rob_counterpart.proofs.Proving.ItemLemmas.{meets_over}
use Rattle.rob_counterpart.proofs.Sets.SetLemmas.{over_set_is, set_empty, feasible_point}

-- a scenario or ray that is read, over its scale
pub scenario-over : (m : RobustModel) (P : Program) → IsOverSet (robust_of m) P → (x : ℕ → Fraction) (s : ℤ) (z : ℕ → ℤ)
    → IsOver P x s z
    → scenario_read m x ≡ tabulate (length m.parameters) (λ c. over (pair z c) s)
scenario-over m P se x s z point =
    tabulate-same (length m.parameters) (difference x) (λ c. over (pair z c) s)
    (λ c l.
    let w : P.n ≡ set_column_count m + set_column_count m = se.width in
    difference-over P x s z point c (omega arith))

module _ (m : RobustModel) where
  -- whole weights that show the set to be empty do so in the model's own words
  module _ (w : ℕ → ℤ) (e : ShowsSetEmpty (robust_of m) w) where
    abbrev weights : List Fraction
    weights = tabulate (length (set_rows m)) (λ r. over (w r) (pos 1))

    columns : vec_mat (set_column_count m) weights (set_matrix m) ≡ zeros (set_column_count m)
    columns =
        ap (λ (rows : List (List Fraction)). vec_mat (set_column_count m) weights rows) (set_matrix-tabulate m)
        ∙ vec_mat-over (length (set_rows m)) (set_column_count m) w (robust_of m).left (pos 1)
        ∙ tabulate-same (set_column_count m)
        (λ c. over (sum_to (length (set_rows m)) (λ r. w r *ℤ (robust_of m).left r c)) (pos 1)) (λ c. 0ℚ)
        (λ c l. ap (λ v. over v (pos 1)) (e.columns c l) ∙ over-zero (pos 1))
        ∙ sym (zeros-tabulate (set_column_count m))

    negative : dot weights (set_limits m) <ℚ 0ℚ
    negative =
        subst (λ y. y <ℚ 0ℚ)
        (sym (ap (λ (ys : List Fraction). dot weights ys) (set_limits-tabulate m)
        ∙ over-dot (length (set_rows m)) w (robust_of m).right (pos 1)))
        (subst (λ y. over (V.dot (length (set_rows m)) w (robust_of m).right) (pos 1) <ℚ y) (over-zero (pos 1))
        (over_lt (V.dot (length (set_rows m)) w (robust_of m).right) (pos 0) (pos 1) (omega (arith, ints)) e.below))

    shows_empty : ShowsEmpty m weights
    shows_empty = record {
      count = length-tabulate (length (set_rows m)) (λ r. over (w r) (pos 1));
      nonnegative =
          nonneg_tabulate (length (set_rows m)) (λ r. over (w r) (pos 1))
          (λ r l. over_nonneg (w r) (pos 1) (omega (arith, ints)) (e.nonnegative r l));
      columns = columns;
      negative = negative;
    }

  -- so do the Farkas weights of the set's program
  pub set_weights : (own : Columns) (rows : Matrix) → InfeasibleEnding (set_program m) own rows
      → ShowsEmpty m (weights_read m rows)
  set_weights own rows en =
      subst (λ (ws : List Fraction). ShowsEmpty m ws)
      (tabulate-same (length (set_rows m)) (λ r. over (slack_entries (set_program m) rows r) (pos 1))
      (weight_of (set_program m) rows) (λ r l. over-one (slack_entries (set_program m) rows r)))
      (shows_empty (slack_entries (set_program m) rows)
      (set_empty (robust_of m) (set_program m) (over_set_is (robust_of m) (λ c. pos 0)) own rows en))

  -- a point of the whole set, over its base, is a scenario
  point_admitted : IsModel m → (s : ℤ) (x : ℕ → ℤ) → pos 0 <ℤ s → LiesInSet (robust_of m) s (pair x)
      → Admits m (tabulate (length m.parameters) (λ c. over (pair x c) s))
  point_admitted model s x sp lies =
      meets_admits m model (tabulate (length m.parameters) (λ c. over (pair x c) s))
      (subst (λ y. Meets m y (tabulate (length m.parameters) (λ c. over (pair x c) s))) (over-self s sp)
      (meets_over m s s (pair x) sp lies model))

  -- the point of a feasible basis, in any program over the set
  pub over_admitted : IsModel m → (P : Program) → IsOverSet (robust_of m) P
      → (own : Columns) (rows : Matrix) (x : ℕ → Fraction)
      → IsBasis (system_of P) own rows
      → Feasible (system_of P) rows → IsBasicPoint (system_of P) own rows x → Admits m (scenario_read m x)
  over_admitted model P se own rows x b f p = by (point_exists (system_of P) own rows b)
    where
      by : ((s : ℤ) × (z : ℕ → ℤ) × Point (system_of P) own rows s z) → Admits m (scenario_read m x)
      by w =
          subst (λ (u : List Fraction). Admits m u)
          (sym (scenario-over m P se x w.0 w.1
          (λ k l. over_from (x k) (w.1 k) w.0 w.2.scale
          (point_scaled (system_of P) own rows x w.0 w.1 b p w.2 k l))))
          (point_admitted model w.0 w.1 w.2.scale (feasible_point (robust_of m) P se own rows w.0 w.1 b f w.2))

  pub basis_admitted : IsModel m → (own : Columns) (rows : Matrix) (x : ℕ → Fraction)
      → IsBasis (system_of (set_program m)) own rows
      → Feasible (system_of (set_program m)) rows → IsBasicPoint (system_of (set_program m)) own rows x
      → Admits m (scenario_read m x)
  basis_admitted model = over_admitted model (set_program m) (over_set_is (robust_of m) (λ c. pos 0))
