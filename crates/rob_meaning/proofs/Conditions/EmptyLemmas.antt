-- Weights that show the set to be empty: no scenario is admitted.
use Rattle.std.proofs.Common.{sym, ◌∙◌, ap, subst}
use Rattle.std.specs.Prelude.{◌≡◌, List, ◌++◌}
use Rattle.rob_algebra.specs.Fraction.{Fraction, ◌≤ℚ◌}
use Rattle.rob_algebra.specs.FractionLaws as Q
use Rattle.rob_algebra.specs.FractionOrderLaws.{not_lt_ℚ}
use Rattle.rob_algebra.specs.FractionLaws.{ℚ_ring}
use Rattle.rob_algebra.specs.Lists.{dot, scale, mat_vec, dot-zeros, dot-vec_mat}
use Rattle.rob_meaning.proofs.Conditions.AdmittedLemmas.{admits_meets}
use Rattle.rob_meaning.proofs.Proving.CoverLemmas.{dot_le, rows_shape, rows_le}
use Rattle.rob_meaning.proofs.Tables.MatrixLemmas.{dot-scale_right}
use Rattle.rob_meaning.proofs.Conditions.WholeRowLemmas.{lifted_of}
use Rattle.rob_meaning.specs.Multipliers.{set_matrix, set_limits, ShowsEmpty}
use Rattle.rob_meaning.specs.Places.{0ℚ, 1ℚ}
use Rattle.rob_meaning.specs.RobustModel.{RobustModel}
use Rattle.rob_meaning.specs.SetRows.{IsLifted, set_rows, set_column_count}
use Rattle.rob_meaning.specs.UncertaintySet.{IsEmptySet}
use Rattle.rob_meaning.specs.WellFormed.{IsModel}

module _ (m : RobustModel) (model : IsModel m) (weights : List Fraction) (w : ShowsEmpty m weights) where
  -- the set rows times the weights would say that 0 is at most a negative number
  no_lifted : (u : List Fraction) → IsLifted m 1ℚ u → ⊥
  no_lifted u a =
      not_lt_ℚ 0ℚ (dot ℚ_ring weights (set_limits m))
      (subst (λ y. y ≤ℚ dot ℚ_ring weights (set_limits m)) left_side
      (subst (λ y. dot ℚ_ring weights (mat_vec ℚ_ring (set_matrix m) (u ++ a.lifts)) ≤ℚ y)
      (dot-scale_right 1ℚ weights (set_limits m) ∙ Q.ℚ-one-mul (dot ℚ_ring weights (set_limits m)))
      (dot_le weights (mat_vec ℚ_ring (set_matrix m) (u ++ a.lifts)) (scale ℚ_ring 1ℚ (set_limits m)) w.nonnegative
      (rows_le m 1ℚ (u ++ a.lifts) (set_rows m) a.rows))))
      w.negative
    where
      left_side : dot ℚ_ring weights (mat_vec ℚ_ring (set_matrix m) (u ++ a.lifts)) ≡ 0ℚ
      left_side =
          sym (dot-vec_mat ℚ_ring (set_column_count m) weights (set_matrix m) (u ++ a.lifts)
          (rows_shape m (set_rows m)))
          ∙ ap (λ (xs : List Fraction). dot ℚ_ring xs (u ++ a.lifts)) w.columns
          ∙ dot-zeros ℚ_ring (set_column_count m) (u ++ a.lifts)

  pub shows_empty : IsEmptySet m
  shows_empty u admitted = no_lifted u (lifted_of m model 1ℚ u (admits_meets m model u admitted))
