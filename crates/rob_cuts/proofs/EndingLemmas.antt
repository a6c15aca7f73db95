-- How a solver ends on the master over some cuts.
use Rattle.std.proofs.Common.{◌≡◌, ℕ, ◌<◌, List, length, sym, ◌∙◌}
use Rattle.rob_algebra.specs.Fraction.{of_int}
use Rattle.rob_linear.specs.Vectors.{Matrix}
use Rattle.rob_linear.specs.Programs.{auxiliary_of}
use Rattle.rob_linear.specs.Turns.{own_of}
use Rattle.rob_meaning.specs.RobustModel.{RobustModel}
use Rattle.rob_number.specs.declared.lp_kind.LpKind.TheVariants as kind
use Rattle.rob_simplex.specs.Dictionaries.{columns_of}
use Rattle.rob_simplex.specs.Solvers.{Solver, entries, column_of}
use Rattle.rob_simplex.specs.Solutions.{point_of, dual_of, ray_of, weights_of}
use Rattle.rob_simplex.specs.Endings.{IsOptimumOf, IsRayOf, HasWeightsFor}
use Rattle.rob_counterpart.specs.Endings.{InfeasibleEnding}
use Rattle.rob_counterpart.specs.ReadCertificates.{weight_of}
use Rattle.rob_counterpart.proofs.Positions.SamePaths.{last_same}
use Rattle.rob_dualize.specs.Ending.{HasEnded}
use Rattle.rob_dualize.proofs.EndingLemmas.{optimal_end, unbounded_end, infeasible_end, entered}
use Rattle.rob_runs.specs.Cuts.{Cut, master_over}
use Rattle.rob_runs.specs.Runs.{MasterIsOptimal, MasterIsUnbounded, MasterIsInfeasible}

module _ (m : RobustModel) (cuts : List Cut) (s : Solver) where
  pub optimal_master : HasEnded (master_over m cuts) kind.Optimal s
      → MasterIsOptimal m cuts s.basis (point_of s) (dual_of s)
  optimal_master h =
      let o : IsOptimumOf h.program s = h.solved in
      record {
        size = sym h.rows ∙ h.same.height;
        last = last_same h.program (master_over m cuts) h.same (columns_of s.basis) o.last;
        rows = entries s;
        ending = optimal_end (master_over m cuts) s h;
      }

  pub unbounded_master : HasEnded (master_over m cuts) kind.Unbounded s
      → MasterIsUnbounded m cuts s.basis (column_of s.state) (point_of s) (ray_of s)
  unbounded_master h =
      let o : IsRayOf h.program s = h.solved in
      record {
        size = sym h.rows ∙ h.same.height;
        last = last_same h.program (master_over m cuts) h.same (columns_of s.basis) o.last;
        rows = entries s;
        entering = entered (master_over m cuts) s h;
        ending = unbounded_end (master_over m cuts) s h;
      }

  -- with the rows that have the told weights
  pub infeasible_master : HasEnded (master_over m cuts) kind.Infeasible s
      → (rows : Matrix) × MasterIsInfeasible m cuts s.basis rows
      × ((q : ℕ) → q < length cuts → of_int (weights_of s q) ≡ weight_of (master_over m cuts) rows q)
  infeasible_master h =
      let o : HasWeightsFor h.program s = h.solved in
      let en : (rows : Matrix) × InfeasibleEnding (master_over m cuts)
      (own_of (auxiliary_of (master_over m cuts)) (columns_of s.basis)) rows
      × ((t : ℕ) → t < (master_over m cuts).m → of_int (weights_of s t) ≡ weight_of (master_over m cuts) rows t) =
      infeasible_end (master_over m cuts) s h in (
        en.0,
        record {
          size = sym h.rows ∙ h.same.height;
          last = last_same h.program (master_over m cuts) h.same (columns_of s.basis) o.last;
          ending = en.1;
        },
        en.2,
      )
