-- The paths of all searches of a model begin with the path of its set's program.
use Rattle.std.proofs.Common.{◌≡◌, ℕ, ◌<◌, List, inl, inr, ◌⊎◌}
use lib.IntN.{pos}
use Rattle.rob_algebra.specs.Fraction.{Fraction}
use Rattle.rob_linear.specs.Vectors.{Columns, Matrix, Vector}
use Rattle.rob_linear.specs.Programs.{auxiliary_of}
use Rattle.rob_linear.specs.Turns.{own_of}
use Rattle.rob_linear.specs.Paths.{HasAuxiliary, Reached, Last, ReachedFrom, LastFrom, EndsInFirstPhase}
use Rattle.rob_linear.specs.WideRows.{IsWideStage, HasWideRow, HasWideRowFrom}
use Rattle.rob_linear.proofs.BasisPaths.LastBases.{last_ends}
use Rattle.rob_meaning.specs.RobustModel.{RobustModel}
use Rattle.rob_meaning.specs.UncertaintySet.{Admits}
use Rattle.rob_meaning.specs.WellFormed.{IsModel}
use Rattle.rob_meaning.proofs.Conditions.EmptyLemmas.{shows_empty}
use Rattle.rob_counterpart.specs.Counterpart.{set_program, search_program}
use Rattle.rob_counterpart.specs.Endings.{InfeasibleEnding}
use Rattle.rob_counterpart.specs.ReadCertificates.{weights_read}
use Rattle.rob_counterpart.proofs.Sets.ScenarioLemmas.{set_weights}
use Rattle.rob_runs.proofs.Searching.ResumeLemmas.{own_without, path_splits, resumed_is_last, last_is_resumed, resumed_wide, stage_wide, infeasible_without_cost, infeasible_with_cost}
use Rattle.rob_counterpart.proofs.Sets.OwnSetLemmas.{signed_zero}

module _ (m : RobustModel) where
  -- the set's program costs nothing
  set_free : (n j : ℕ) → j < n → (set_program m).c j ≡ pos 0
  set_free n j l = signed_zero j

  -- ---- where the set's program ends
  pub not_infeasible : IsModel m → (scenario : List Fraction) → Admits m scenario → (own : Columns) (rows : Matrix)
      → ¬ (InfeasibleEnding (set_program m) own rows)
  not_infeasible model scenario admitted own rows en =
      shows_empty m model (weights_read m rows) (set_weights m own rows en) scenario admitted

  -- where a scenario is admitted, it ends without the auxiliary column
  pub solved_without : IsModel m → (scenario : List Fraction) → Admits m scenario → (start : Columns)
      → Last (set_program m) start
      → ¬ (HasAuxiliary (set_program m) start)
  solved_without model scenario admitted start l =
      elim (last_ends (set_program m) start l) [
        | inl e ↦ own_without (set_program m) start e.0 e.1
        | inr (inl e) ↦ own_without (set_program m) start e.0 e.2
        | inr (inr e) ↦
            absurd (not_infeasible model scenario admitted (own_of (auxiliary_of (set_program m)) start) e.0
            (record { basis = e.2; ends = e.3 }))
      ]

  -- ---- and how a search goes on from there
  module _ (i : ℕ) (z : Vector) where
    module _ (start : Columns) (last : Last (set_program m) start)
        (without : ¬ (HasAuxiliary (set_program m) start)) where
      pub search_splits : (basis : Columns) → Reached (search_program m i z) basis
          → Reached (set_program m) basis ⊎ ReachedFrom (search_program m i z) start basis
      search_splits =
          path_splits (search_program m i z) (set_program m).c (set_free (search_program m i z).n) start last without

      pub search_resumed : (basis : Columns) → LastFrom (search_program m i z) start basis
          → Last (search_program m i z) basis
      search_resumed =
          resumed_is_last (search_program m i z) (set_program m).c
          (set_free (search_program m i z).n) start last without

      pub search_last : (basis : Columns) → Last (search_program m i z) basis
          → LastFrom (search_program m i z) start basis
      search_last =
          last_is_resumed (search_program m i z) (set_program m).c
          (set_free (search_program m i z).n) start last without

      pub search_wide : (limit : ℕ) (basis : Columns) (k : ℕ)
          → HasWideRowFrom limit (search_program m i z) start basis k
          → HasWideRow limit (search_program m i z) basis k
      search_wide =
          resumed_wide (search_program m i z) (set_program m).c (set_free (search_program m i z).n) start last without

      pub search_stage : (limit : ℕ) → IsWideStage limit (search_program m i z) start
          → HasWideRow limit (search_program m i z) start (search_program m i z).m
      search_stage =
          stage_wide (search_program m i z) (set_program m).c (set_free (search_program m i z).n) start last without

    pub search_infeasible : (basis : Columns) → Last (search_program m i z) basis
        → EndsInFirstPhase (search_program m i z) basis
        → Last (set_program m) basis × EndsInFirstPhase (set_program m) basis
    search_infeasible =
        infeasible_without_cost (search_program m i z) (set_program m).c (set_free (search_program m i z).n)

    pub set_infeasible : (basis : Columns) → Last (set_program m) basis → EndsInFirstPhase (set_program m) basis
        → Last (search_program m i z) basis × EndsInFirstPhase (search_program m i z) basis
    set_infeasible = infeasible_with_cost (search_program m i z) (set_program m).c (set_free (search_program m i z).n)

    -- with the same rows, and so with the same weights
    pub search_weights : (own : Columns) (rows : Matrix) → InfeasibleEnding (search_program m i z) own rows
        → InfeasibleEnding (set_program m) own rows
    search_weights own rows en =
        record {
          basis = en.basis;
          ends = record {
            feasible = en.ends.feasible;
            no_improving = en.ends.no_improving;
            below = en.ends.below;
          };
        }

    pub set_weights_search : (own : Columns) (rows : Matrix) → InfeasibleEnding (set_program m) own rows
        → InfeasibleEnding (search_program m i z) own rows
    set_weights_search own rows en =
        record {
          basis = en.basis;
          ends = record {
            feasible = en.ends.feasible;
            no_improving = en.ends.no_improving;
            below = en.ends.below;
          };
        }
