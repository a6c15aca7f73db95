-- A solver over deep rows that took over the last basis of the set's program, and why its rows refuse a search.
use Rattle.std.proofs.Common.{◌≡◌, ℕ, List, refl, sym, ◌∙◌, subst, inl, inr}
use lib.IntN.{ℤ}
use Rattle.rob_algebra.specs.Fraction.{Fraction}
use Rattle.rob_linear.specs.Programs.{Program, system_of, with_cost}
use Rattle.rob_linear.specs.Paths.{HasAuxiliary, Last, LastFrom}
use Rattle.rob_linear.specs.Systems.{Feasible}
use Rattle.rob_linear.specs.Vectors.{Columns, at}
use Rattle.rob_linear.specs.WideRows.{HasWideRowFrom}
use Rattle.rob_meaning.specs.RobustModel.{RobustModel}
use Rattle.rob_counterpart.specs.Counterpart.{robust_of, set_program}
use Rattle.rob_counterpart.specs.RobustProgram.{number_at}
use Rattle.rob_counterpart.specs.SamePrograms.{AreSame}
use Rattle.rob_counterpart.specs.SetPrograms.{HasCost}
use Rattle.rob_counterpart.proofs.Positions.SamePaths.{own_wide_same}
use Rattle.rob_runs.specs.Cuts.{wholes}
use Rattle.rob_runs.specs.Searches.{search_at}
use Rattle.rob_runs.proofs.Searching.FinderLemmas.{finder_last, finder_same, finder_wide}
use Rattle.rob_simplex.specs.declared.state.State.{State}
use Rattle.rob_simplex.specs.Dictionaries.{columns_of}
use Rattle.rob_simplex.specs.PathEnds.{PathStopsFrom}
use Rattle.rob_simplex.specs.Resuming.{IsCausedFrom}
use Rattle.rob_simplex.specs.Solvers.{Solver, positions, entries, HasWeights, StandsAs, has_point}
use Rattle.rob_simplex.proofs.Rows.Deepened.{can_resume, deep_is, same_point}
use Rattle.rob_simplex.specs.declared.state.LpStop.{LpStop}
use Rattle.rob_simplex.specs.declared.state.LpStop.TheVariants.{Wide as At}
use Rattle.rob_solver.specs.Depths.{deep_limit}
use Rattle.rob_dualize.specs.Ending.{position_of}
use Rattle.rob_dualize.specs.SetSolving.{IsSolved}
use Rattle.rob_dualize.proofs.RefusalLemmas.{ends_wide_same}
use Rattle.rob_worst.specs.Finding.{IsRefusedSearch}

-- where there is a point, there are no weights
pub weightless : (Q : Program) (s : Solver) → IsSolved Q s → HasWeights s → ⊥
weightless Q s h w = subst (λ (x : State). has_point x) w h.stands.point

pub taken_over : (Q : Program) (top : ℕ) (s s' : Solver) → StandsAs top s s' → IsSolved Q s → IsSolved Q s'
taken_over Q top s s' a h = record {
  last = record {
    program = h.last.program;
    same = h.last.same;
    point = same_point top s s' a (Last h.last.program) h.last.program h.last.point;
    feasible = subst (λ (x : Solver). Feasible (system_of h.last.program) (entries x)) (deep_is top s s' a)
        h.last.feasible;
  };
  stands = can_resume top s s' a h.last.program h.stands;
  rows = subst (λ (x : Solver). h.last.program.m ≡ positions x) (deep_is top s s' a) h.rows;
  columns = subst (λ (x : Solver). h.last.program.n ≡ x.columns) (deep_is top s s' a) h.columns;
}

-- why a solver over deep rows refuses a search, of the search's own program
module _ (m : RobustModel) (i : ℕ) (z : List Fraction) (cost : List ℤ)
    (costs : HasCost (robust_of m) (λ c. number_at (robust_of m) i c (at (wholes z)))
    (with_cost (set_program m) (at cost)))
    (P : Program) (same : AreSame P (set_program m)) (start : Columns) (last : Last P start)
    (without : ¬ (HasAuxiliary P start)) (s : Solver) (rows : P.m ≡ positions s) (deep : s.limit ≡ deep_limit) where
  costs_on : HasCost (robust_of m) (λ c. number_at (robust_of m) i c (at (wholes z))) (with_cost P (at cost))
  costs_on = record { cost_plus = costs.cost_plus; cost_minus = costs.cost_minus }

  search_same : AreSame (with_cost P (at cost)) (search_at m i z)
  search_same = finder_same m i (at (wholes z)) P (at cost) same costs_on

  pub refused_search : (limit : ℕ) (stop : LpStop) → IsCausedFrom limit (with_cost P (at cost)) start stop s
      → IsRefusedSearch limit (search_at m i z) s.basis (position_of stop)
  refused_search limit (At p) h = by h
    where
      wide_row : HasWideRowFrom deep_limit (with_cost P (at cost)) start (columns_of s.basis) p
          → IsRefusedSearch limit (search_at m i z) s.basis p
      wide_row w = inl (record {
        whole = sym rows ∙ same.height;
        reached = (finder_wide m i (at (wholes z)) P (at cost) same costs_on start last without deep_limit
            (columns_of s.basis) p w).reached;
        wide = own_wide_same (with_cost P (at cost)) (search_at m i z) search_same deep_limit (columns_of s.basis) p
            w.wide;
      })

      by : PathStopsFrom limit (with_cost P (at cost)) start s.dictionary p
          → IsRefusedSearch limit (search_at m i z) s.basis p
      by (inl w) =
          wide_row
          (subst (λ (top : ℕ). HasWideRowFrom top (with_cost P (at cost)) start (columns_of s.basis) p) deep w)
      by (inr e) = inr (record {
        dictionary = s.dictionary;
        basis_is = refl;
        ends = ends_wide_same (with_cost P (at cost)) (search_at m i z) search_same s.dictionary
            (LastFrom (with_cost P (at cost)) start) (Last (search_at m i z)) limit p
            (finder_last m i (at (wholes z)) P (at cost) same costs_on start last without (columns_of s.basis) e.last)
            e;
      })
