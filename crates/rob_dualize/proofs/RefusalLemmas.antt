-- A row for which a solver refuses its program is one for which each program with the same numbers is refused.
use Rattle.std.proofs.Common.{◌≡◌, ◌⊎◌, ℕ, suc, ◌+◌, ◌<◌, List, length, Option, None, Some, refl, sym, ap, ◌∙◌, subst, arith, inl, inr, cond, ltb}
use lib.IntN.{pos}
use lib.Signed.{◌≤ℤ◌}
use Rattle.rob_algebra.specs.Fraction.{Fraction}
use Rattle.rob_linear.specs.Beside.{without_column}
use Rattle.rob_linear.specs.Multiples.{StandsMultiple}
use Rattle.rob_linear.specs.Optimality.{IsInfeasible, IsOptimal}
use Rattle.rob_linear.specs.Paths.{Last, EndsAtOptimum, EndsAtRay, EndsInFirstPhase}
use Rattle.rob_linear.specs.Programs.{Program, system_of, auxiliary_of}
use Rattle.rob_linear.specs.Systems.{System, IsPrimitive}
use Rattle.rob_linear.specs.Turns.{own_of}
use Rattle.rob_linear.specs.Vectors.{Columns}
use Rattle.rob_linear.specs.WideRows.{HasWideRow, TellsWideRow}
use Rattle.rob_linear.proofs.BasisPaths.LastBases.{last_ends}
use Rattle.rob_linear.proofs.Meaning.Optimality.{farkas, optimal_ending, unbounded_ending}
use Rattle.rob_linear.proofs.Meaning.Truths.{infeasible}
use Rattle.rob_counterpart.specs.Endings.{slack_entries, OptimalEnding, InfeasibleEnding, UnboundedEnding}
use Rattle.rob_counterpart.specs.SamePrograms.{AreSame}
use Rattle.rob_counterpart.proofs.Proving.CompletenessLemmas.{optimal_exists, unbounded_exists}
use Rattle.rob_counterpart.proofs.Positions.SamePaths.{infeasible_same, last_same, own_auxiliary_same, wide_row_same}
use Rattle.rob_counterpart.proofs.Positions.SameSystems.{systems_same}
use Rattle.rob_simplex.specs.declared.state.LpStop.{LpStop}
use Rattle.rob_simplex.specs.declared.state.LpStop.TheVariants.{Wide as At}
use Rattle.rob_simplex.specs.Dictionaries.{Table, columns_of, rows_of, FirstNegative}
use Rattle.rob_simplex.specs.Endings.{HasStopped, HasWideWeight}
use Rattle.rob_simplex.specs.PathEnds.{AreWeights, EndsWide}
use Rattle.rob_simplex.specs.Phases.{StandsFor, EndsIn}
use Rattle.rob_simplex.specs.Solutions.{weights_of}
use Rattle.rob_simplex.specs.Solvers.{Solver, positions}
use Rattle.rob_solver.specs.Depths.{deep_limit}
use Rattle.rob_solver.specs.Solving.{IsCausedBy}
use Rattle.rob_dualize.specs.Ending.{position_of}
use Rattle.rob_dualize.specs.Refusals.{TellsWideNumber, TellsWideWeight, IsRefusedRow, IsRefusedAt}

-- ---- the dictionary of a last basis
module _ (P Q : Program) (same : AreSame P Q) (t : Table) where
  width_same : P.n + P.m ≡ Q.n + Q.m
  width_same =
      let m : P.m ≡ Q.m = same.height in
      let n : P.n ≡ Q.n = same.width in
      omega arith

  stands_same : StandsFor P t → StandsFor Q t
  stands_same h =
      let m : P.m ≡ Q.m = same.height in
      record {
        rows_are = h.rows_are ∙ same.height;
        columns_are = h.columns_are ∙ same.width;
        stands = subst (λ (w : ℕ). StandsMultiple (system_of Q) (columns_of t.basis)
            (λ i k. rows_of t i (cond (ltb k w) k (suc k)))) width_same
            (subst (λ (S : System). StandsMultiple S (columns_of t.basis) (without_column P (rows_of t)))
            (systems_same P Q same) h.stands);
        empty = λ i l. subst (λ (w : ℕ). rows_of t i w ≡ pos 0) width_same (h.empty i (omega arith));
        closed = h.closed;
      }

  ends_same : (growing : Option ℕ) → EndsIn P growing t → EndsIn Q growing t
  ends_same None h =
      let w : P.n + P.m ≡ Q.n + Q.m = width_same in
      λ k l. subst (λ (r : ℕ). pos 0 ≤ℤ rows_of t r k) same.height (h k (omega arith))
  ends_same (Some column) h =
      let m : P.m ≡ Q.m = same.height in (
        subst (λ (r : ℕ). FirstNegative (Q.n + Q.m) (rows_of t r) column) same.height
            (subst (λ (w : ℕ). FirstNegative w (rows_of t P.m) column) width_same h.0),
        λ i l. h.1 i (omega arith),
      )

  -- it tells the same wide number first, where the last basis of the one path is that of the other
  pub ends_wide_same : (IsEnd IsEndThere : Columns → Type 0) (limit p : ℕ) → IsEndThere (columns_of t.basis)
      → EndsWide IsEnd limit P t p → EndsWide IsEndThere limit Q t p
  ends_wide_same IsEnd IsEndThere limit p last h = record {
    last = last;
    own = stands_same h.own;
    growing = h.growing;
    ends = ends_same h.growing h.ends;
    wide = h.wide;
  }

-- ---- the weights of a first phase
-- where no point is feasible, a last basis is one of the first phase
module _ (P : Program) (basis : Columns) (none : IsInfeasible P) where
  in_first_phase : EndsAtOptimum P basis ⊎ (EndsAtRay P basis ⊎ EndsInFirstPhase P basis) → EndsInFirstPhase P basis
  in_first_phase (inl e) =
      let own : Columns = own_of (system_of P) basis in
      let o : (x : ℕ → Fraction) × (y : ℕ → Fraction) × OptimalEnding P own e.0 x y =
      optimal_exists P own e.0 e.1 e.2 in
      let best : IsOptimal P o.0 = optimal_ending P own e.0 o.0 e.1 e.2 o.2.point in
      absurd (none o.0 best.feasible)
  in_first_phase (inr (inl e)) =
      let own : Columns = own_of (system_of P) basis in
      let u : (x : ℕ → Fraction) × (r : ℕ → Fraction) × UnboundedEnding P own e.0 e.1 x r =
      unbounded_exists P own e.0 e.1 e.2 e.4 in
      absurd (none u.0 (unbounded_ending P own e.0 e.1 u.0 u.1 e.2 e.4 u.2.point u.2.move).0)
  in_first_phase (inr (inr e)) = e

module _ (limit : ℕ) (P Q : Program) (same : AreSame P Q) (s : Solver) (i : ℕ) (h : HasWideWeight limit P s i) where
  ending : InfeasibleEnding Q (own_of (auxiliary_of Q) (columns_of s.basis)) h.ending.rows
  ending =
      subst (λ (own : Columns). InfeasibleEnding Q own h.ending.rows) (own_auxiliary_same P Q same (columns_of s.basis))
      (infeasible_same P Q same (own_of (auxiliary_of P) (columns_of s.basis)) h.ending.rows
      (record { basis = h.ending.basis; ends = h.ending.ends }))

  infeasible_there : IsInfeasible Q
  infeasible_there =
      farkas Q (slack_entries Q h.ending.rows)
      (infeasible Q (own_of (auxiliary_of Q) (columns_of s.basis)) h.ending.rows ending.basis ending.ends.no_improving
      ending.ends.below)

  last_there : Last Q (columns_of s.basis)
  last_there = last_same P Q same (columns_of s.basis) h.last

  first_there : EndsInFirstPhase Q (columns_of s.basis)
  first_there =
      in_first_phase Q (columns_of s.basis) infeasible_there (last_ends Q (columns_of s.basis) last_there)

  are_weights : AreWeights Q s.basis s.weights
  are_weights =
      let m : P.m ≡ Q.m = same.height in
      record {
        reached = last_there.reached;
        ends = (h.ending.rows, first_there.1, ending.basis, ending.ends);
        entries = λ k l.
            ap (λ (n : ℕ). h.ending.rows Q.m (n + k)) (sym same.width)
            ∙ ap (λ (r : ℕ). h.ending.rows r (P.n + k)) (sym same.height)
            ∙ h.ending.weights_are k (omega arith);
      }

  weight_told : P.m ≡ positions s → TellsWideWeight limit Q s.basis i
  weight_told rows =
      let m : P.m ≡ Q.m = same.height in
      let l : h.weight < P.m = h.inside in
      record {
        position = h.position ∙ same.height;
        whole = sym rows ∙ same.height;
        last = last_there;
        weights = s.weights;
        shown = are_weights;
        primitive = subst (λ (n : ℕ). IsPrimitive n (weights_of s)) same.height h.primitive;
        row = h.weight;
        inside = omega arith;
        wide = h.wide;
      }

-- ---- a refusal
stopped_row : (limit : ℕ) (P : Program) (stop : LpStop) (s : Solver) → HasStopped limit P stop s
    → HasWideRow limit P (columns_of s.basis) (position_of stop)
stopped_row limit P (At i) s h = h.1

-- a wide row at a whole basis
wide_told : (limit : ℕ) (P Q : Program) → AreSame P Q → (basis : List ℕ) (i : ℕ) → length basis ≡ P.m
    → HasWideRow limit P (columns_of basis) i → TellsWideRow limit Q basis i
wide_told limit P Q same basis i e w =
    record { whole = e ∙ same.height; row = wide_row_same P Q same limit (columns_of basis) i w }

module _ (limit : ℕ) (P Q : Program) (same : AreSame P Q) (s : Solver) (rows : P.m ≡ positions s) where
  number_told : (p : ℕ) → EndsWide (Last P) limit P s.dictionary p → TellsWideNumber limit Q s.basis p
  number_told p e = record {
    dictionary = s.dictionary;
    basis_is = refl;
    ends = ends_wide_same P Q same s.dictionary (Last P) (Last Q) limit p
        (last_same P Q same (columns_of s.basis) e.last) e;
  }

  pub refused_same : (stop : LpStop) → IsCausedBy limit P stop s → IsRefusedRow limit Q s.basis (position_of stop)
  refused_same (At p) h = by h
    where
      by : ((s.limit ≡ deep_limit) × HasWideRow deep_limit P (columns_of s.basis) p)
          ⊎ (EndsWide (Last P) limit P s.dictionary p ⊎ HasWideWeight limit P s p)
          → IsRefusedRow limit Q s.basis p
      by (inl w) = inl (wide_told deep_limit P Q same s.basis p (sym rows) w.1)
      by (inr (inl e)) = inr (inl (number_told p e))
      by (inr (inr w)) = inr (inr (weight_told limit P Q same s p w rows))

  -- the row where the solver stopped is wide, and a program with the same numbers is refused for it
  pub refused_at : (stop : LpStop) → HasStopped limit P stop s → IsCausedBy limit P stop s
      → IsRefusedAt limit Q s.basis (position_of stop)
  refused_at stop w c = (
    wide_told limit P Q same s.basis (position_of stop) (sym rows) (stopped_row limit P stop s w),
    refused_same stop c,
  )
