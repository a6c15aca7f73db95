-- A search that went on from the set's last basis: its ending is that of the search's own program, and what it tells.
use Rattle.std.proofs.Common.{◌≡◌, ℕ, zero, suc, ◌+◌, ◌<◌, List, [], ◌∷◌, length, refl, sym, ap, ap₂, ◌∙◌, subst, arith}
use lib.IntN.{ℤ, pos, neg_ℤ}
use Rattle.rob_algebra.specs.Fraction.{Fraction, of_int, ◌+ℚ◌, ◌*ℚ◌}
use Rattle.rob_algebra.specs.FractionLaws as Q
use Rattle.rob_algebra.specs.Polynomials.{◌:+◌, v0, v1, v2}
use Rattle.rob_linear.specs.Vectors.{Columns, at}
use Rattle.rob_linear.specs.Systems.{System}
use Rattle.rob_linear.specs.Programs.{Program, system_of, with_cost}
use Rattle.rob_linear.specs.Turns.{own_of, Enters}
use Rattle.rob_linear.specs.Paths.{HasAuxiliary, Last, LastFrom}
use Rattle.rob_linear.specs.Optimality.{sum_ℚ}
use Rattle.rob_meaning.specs.Multipliers.{set_limits}
use Rattle.rob_meaning.specs.Places.{0ℚ, tabulate}
use Rattle.rob_meaning.specs.RobustModel.{RobustModel}
use Rattle.rob_meaning.specs.SetRows.{set_rows}
use Rattle.rob_meaning.specs.Vectors.{dot}
use Rattle.rob_number.specs.declared.lp_kind.LpKind.TheVariants as kind
use Rattle.rob_simplex.specs.Dictionaries.{columns_of}
use Rattle.rob_simplex.specs.Endings.{IsOptimumAt, IsRayAt}
use Rattle.rob_simplex.specs.Resuming.{HasStoppedFrom}
use Rattle.rob_simplex.specs.Solvers.{Solver, positions, entries, column_of}
use Rattle.rob_simplex.specs.Solutions.{point_of, dual_of, ray_of, value_of}
use Rattle.rob_simplex.specs.declared.state.LpStop.{LpStop}
use Rattle.rob_simplex.specs.declared.state.LpStop.TheVariants.{Wide as At}
use Rattle.rob_counterpart.specs.Counterpart.{robust_of, set_program}
use Rattle.rob_counterpart.specs.Endings.{OptimalEnding, UnboundedEnding}
use Rattle.rob_counterpart.specs.ReadCertificates.{scenario_read}
use Rattle.rob_counterpart.specs.RobustProgram.{RobustProgram, number_at}
use Rattle.rob_counterpart.specs.SamePrograms.{AreSame}
use Rattle.rob_counterpart.specs.SetPrograms.{IsOverSet, HasCost, set_of}
use Rattle.rob_counterpart.specs.Splitting.{plus, minus, OneIsZero}
use Rattle.rob_counterpart.specs.WorstCases.{row_amounts}
use Rattle.rob_counterpart.proofs.Sets.ModelLemmas.{set_limits-tabulate}
use Rattle.rob_counterpart.proofs.Positions.SamePaths.{own_same, optimal_same, unbounded_same}
use Rattle.rob_counterpart.proofs.Positions.SameSystems.{systems_same}
use Rattle.rob_counterpart.proofs.Sets.SetLemmas.{over_set_is}
use Rattle.rob_counterpart.proofs.Pairs.SplitLemmas.{AreOpposite, point_opposite, move_opposite}
use Rattle.rob_counterpart.proofs.Pairs.TabulateLemmas.{tabulate-same}
use Rattle.rob_runs.specs.Cuts.{wholes}
use Rattle.rob_runs.specs.Searches.{search_at, FindsScenario, FindsRay}
use Rattle.rob_linear.specs.WideRows.{TellsWideRow}
use Rattle.rob_runs.proofs.Searching.FinderLemmas.{finder_same, finder_last, finder_wide}
use Rattle.rob_dualize.specs.Ending.{position_of}
use Rattle.rob_worst.specs.Finders.{HasSearched}

-- ---- sums of products
sum_first : (n : ℕ) (f : ℕ → Fraction) → sum_ℚ (suc n) f ≡ f 0 +ℚ sum_ℚ n (λ k. f (suc k))
sum_first zero f = Q.ℚ-add_comm 0ℚ (f 0)
sum_first (suc n) f =
    ap (λ v. v +ℚ f (suc n)) (sum_first n f)
    ∙ Q.ring (f 0 ∷ sum_ℚ n (λ k. f (suc k)) ∷ f (suc n) ∷ []) ((v0 :+ v1) :+ v2) (v0 :+ (v1 :+ v2)) refl

sum_is_dot : (n : ℕ) (a : ℕ → ℤ) (y : ℕ → Fraction) → sum_ℚ n (λ k. of_int (a k) *ℚ y k)
    ≡ dot (tabulate n y) (tabulate n (λ k. of_int (a k)))
sum_is_dot zero a y = refl
sum_is_dot (suc n) a y =
    sum_first n (λ k. of_int (a k) *ℚ y k)
    ∙ ap₂ ◌+ℚ◌ (Q.ℚ-mul_comm (of_int (a 0)) (y 0)) (sum_is_dot n (λ k. a (suc k)) (λ k. y (suc k)))

-- ---- the pairs of the set's columns
module _ (d : RobustProgram) (s : Solver) (cost : List ℤ) (opposite : (c : ℕ)
    → at cost (minus c) ≡ neg_ℤ (at cost (plus c))) where
  opposite_columns : (P : Program) → AreSame P (set_of d) → (c : ℕ) → c < d.set_columns
      → AreOpposite (with_cost P (at cost)) (plus c) (minus c)
  opposite_columns P same c l =
      let height : P.m ≡ d.set_rows = same.height in
      let width : P.n ≡ d.set_columns + d.set_columns = same.width in
      let over : IsOverSet d (set_of d) = over_set_is d (λ k. pos 0) in
      record {
        first_in = omega arith;
        second_in = omega arith;
        apart = omega arith;
        rows = λ t tl.
            same.rows t (minus c) tl (omega arith) ∙ over.at_minus t c (omega arith) l
            ∙ ap neg_ℤ (sym (same.rows t (plus c) tl (omega arith) ∙ over.at_plus t c (omega arith) l));
        cost = opposite c;
      }

  pub point_pairs : HasSearched (set_of d) cost kind.Optimal s → (c : ℕ) → c < d.set_columns
      → OneIsZero (point_of s (plus c)) (point_of s (minus c))
  point_pairs h c l =
      let P : Program = with_cost h.program (at cost) in
      let o : IsOptimumAt (LastFrom P h.start) P s = h.resumed in
      point_opposite P (plus c) (minus c) (opposite_columns h.program h.same c l)
      (own_of (system_of P) (columns_of s.basis)) (entries s) o.basis (point_of s) o.basic

  pub ray_pairs : HasSearched (set_of d) cost kind.Unbounded s → (c : ℕ) → c < d.set_columns
      → OneIsZero (ray_of s (plus c)) (ray_of s (minus c))
  ray_pairs h c l =
      let P : Program = with_cost h.program (at cost) in
      let o : IsRayAt (LastFrom P h.start) P s = h.resumed in
      move_opposite P (plus c) (minus c) (opposite_columns h.program h.same c l)
      (own_of (system_of P) (columns_of s.basis)) (entries s) o.basis
      (column_of s.state) (ray_of s) o.ends.improving o.move

-- ---- the search's own program
module _ (m : RobustModel) (i : ℕ) (z : List Fraction) (cost : List ℤ) (s : Solver)
    (costs : HasCost (robust_of m) (λ c. number_at (robust_of m) i c (at (wholes z)))
    (with_cost (set_program m) (at cost))) where
  costs_on : (P : Program) → HasCost (robust_of m) (λ c. number_at (robust_of m) i c (at (wholes z)))
      (with_cost P (at cost))
  costs_on P = record { cost_plus = costs.cost_plus; cost_minus = costs.cost_minus }

  search_same : (P : Program) → AreSame P (set_program m) → AreSame (with_cost P (at cost)) (search_at m i z)
  search_same P same = finder_same m i (at (wholes z)) P (at cost) same (costs_on P)

  pub scenario_found : HasSearched (set_program m) cost kind.Optimal s
      → FindsScenario m i z s.basis (scenario_read m (point_of s)) (row_amounts m (dual_of s))
  scenario_found h =
      let P : Program = with_cost h.program (at cost) in
      let o : IsOptimumAt (LastFrom P h.start) P s = h.resumed in
      let same : AreSame P (search_at m i z) = search_same h.program h.same in
      record {
        size = sym h.rows ∙ h.same.height;
        last = finder_last m i (at (wholes z)) h.program (at cost) h.same (costs_on h.program) h.start h.last
            h.without (columns_of s.basis) o.last;
        rows = entries s;
        point = point_of s;
        duals = dual_of s;
        ending = subst (λ (own : Columns). OptimalEnding (search_at m i z) own (entries s) (point_of s) (dual_of s))
            (own_same P (search_at m i z) same (columns_of s.basis))
            (optimal_same P (search_at m i z) same (own_of (system_of P) (columns_of s.basis)) (entries s)
            (point_of s) (dual_of s)
            (record { basis = o.basis; ends = o.ends; point = o.basic; duals = o.scaled }));
        scenario_is = refl;
        amounts_are = refl;
      }

  pub ray_found : HasSearched (set_program m) cost kind.Unbounded s
      → FindsRay m i z s.basis (column_of s.state) (scenario_read m (ray_of s))
  ray_found h =
      let P : Program = with_cost h.program (at cost) in
      let o : IsRayAt (LastFrom P h.start) P s = h.resumed in
      let same : AreSame P (search_at m i z) = search_same h.program h.same in
      record {
        size = sym h.rows ∙ h.same.height;
        last = finder_last m i (at (wholes z)) h.program (at cost) h.same (costs_on h.program) h.start h.last
            h.without (columns_of s.basis) o.last;
        rows = entries s;
        point = point_of s;
        move = ray_of s;
        entering = subst (λ (S : System). Enters S (entries s) (column_of s.state))
            (systems_same P (search_at m i z) same) o.enters;
        ending = subst (λ (own : Columns). UnboundedEnding (search_at m i z) own (entries s) (column_of s.state)
            (point_of s) (ray_of s)) (own_same P (search_at m i z) same (columns_of s.basis))
            (unbounded_same P (search_at m i z) same (own_of (system_of P) (columns_of s.basis)) (entries s)
            (column_of s.state) (point_of s) (ray_of s)
            (record { basis = o.basis; ends = o.ends; point = o.basic; move = o.move }));
        ray_is = refl;
      }

  -- the value is the amounts' sum of the right sides
  pub peak_found : HasSearched (set_program m) cost kind.Optimal s
      → value_of s ≡ dot (row_amounts m (dual_of s)) (set_limits m)
  peak_found h =
      let P : Program = with_cost h.program (at cost) in
      let o : IsOptimumAt (LastFrom P h.start) P s = h.resumed in
      let height : h.program.m ≡ length (set_rows m) = h.same.height in
      sym o.dual_value
      ∙ ap (λ n. sum_ℚ n (λ r. of_int (h.program.b r) *ℚ dual_of s r)) height
      ∙ sum_is_dot (length (set_rows m)) h.program.b (dual_of s)
      ∙ ap (λ (xs : List Fraction). dot (row_amounts m (dual_of s)) xs)
      (tabulate-same (length (set_rows m)) (λ r. of_int (h.program.b r)) (λ r. of_int ((robust_of m).right r))
      (λ r l. ap of_int (h.same.rights r (omega arith)))
      ∙ sym (set_limits-tabulate m))

-- a wide row that the search stops at is wide on the path of its own program
pub wide_found : (limit : ℕ) (m : RobustModel) (i : ℕ) (z : List Fraction) (cost : List ℤ) (s : Solver)
    → HasCost (robust_of m) (λ c. number_at (robust_of m) i c (at (wholes z))) (with_cost (set_program m) (at cost))
    → (P : Program) → AreSame P (set_program m) → (start : Columns) → Last P start → ¬ (HasAuxiliary P start)
    → P.m ≡ positions s
    → (stop : LpStop) → HasStoppedFrom limit (with_cost P (at cost)) start stop s
    → TellsWideRow limit (search_at m i z) s.basis (position_of stop)
wide_found limit m i z cost s costs P same start last without rows (At p) h = record {
  whole = sym rows ∙ same.height;
  row = finder_wide m i (at (wholes z)) P (at cost) same (record
      { cost_plus = costs.cost_plus; cost_minus = costs.cost_minus }) start last without limit (columns_of s.basis) p
      h.1;
}
