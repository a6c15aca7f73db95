-- From the end of the path to what the solver answers.
use Rattle.std.proofs.Common.{◌≡◌, ℕ, suc, ◌+◌, ◌<◌, sym, ap, ap₂, ◌∙◌, subst, arith, Some, None}
use Rattle.std.specs.Int.RustNames.{unsigned_abs}
use Rattle.std.specs.Int.{◌∣◌}
use lib.IntN.{pos, ◌*ℤ◌}
use lib.Signed.{◌<ℤ◌, ◌≤ℤ◌}
use Rattle.rob_linear.specs.Vectors.{Matrix, Vector, Columns}
use Rattle.rob_linear.specs.Systems.{IsBasis, EndsOptimal, EndsUnbounded, IsNonnegative}
use Rattle.rob_linear.specs.Programs.{Program, system_of, auxiliary_of, ShowsEmpty}
use Rattle.rob_linear.specs.Turns.{own_of, Enters, StandsWith}
use Rattle.rob_linear.specs.Paths.{HasAuxiliary, Last, LastFrom, EndsAtOptimum, EndsAtRay}
use Rattle.rob_linear.specs.Beside.{without_column}
use Rattle.rob_linear.specs.Optimality.{IsScaled}
use Rattle.rob_linear.proofs.LinearPrograms.Sums.{sum_ext}
use Rattle.rob_linear.proofs.Meaning.Endings.{own_positive}
use Rattle.rob_linear.proofs.Bases.Choices.{lex_feasible}
use Rattle.rob_linear.proofs.BasisPaths.Auxiliary.{farkas_primitive}
use Rattle.rob_linear.proofs.BasisPaths.LastBases.{optimum_is_last, ray_is_last, first_phase_is_last}
use Rattle.rob_linear.proofs.RowForms.MultiplePaths.{optimum_last_from, ray_last_from}
use Rattle.rob_linear.proofs.RowForms.Multiples.{enters_parallel, none_improves_parallel, no_limit_parallel}
use Rattle.rob_linear.proofs.Meaning.Optimality.{optimal_ending, optimal_duals_ℚ, unbounded_ending, farkas}
use Rattle.rob_linear.proofs.LinearPrograms.Scaling.{over_scaled}
use Rattle.rob_linear.proofs.Meaning.Truths.{infeasible}
use Rattle.rob_linear.proofs.Bases.Turns.{own_low}
use Rattle.rob_linear.proofs.KeptOut.WithoutColumn.{enters_without}
use Rattle.rob_simplex.specs.declared.state.State.TheVariants.{Optimal}
use Rattle.rob_simplex.specs.Dictionaries.{sized, rows_of, columns_of}
use Rattle.rob_simplex.specs.Phases.{StandsFor, InSecond, EndsFrom, EndsIn}
use Rattle.rob_simplex.specs.PathEnds.{AreWeights}
use Rattle.rob_simplex.specs.Solvers.{Solver, positions, entries, column_of, HasRay, HasWeights}
use Rattle.rob_simplex.specs.Solutions.{point_of, ray_of, dual_of, weights_of}
use Rattle.rob_simplex.specs.Endings.{IsOptimumAt, IsRayAt, IsOptimumOf, IsRayOf, HasWeightsFor}
use Rattle.rob_simplex.proofs.Telling.SolverRows.{low_place, high_place, shown_parallel, shown_stands}
use Rattle.rob_simplex.proofs.Telling.LastPoints.{basic_point, basic_move, value_is}

-- the same weights show the same
shows_ext : (P : Program) (w w' : Vector) → ((i : ℕ) → i < P.m → w i ≡ w' i) → ShowsEmpty P w → ShowsEmpty P w'
shows_ext P w w' e h = record {
  nonnegative = λ i l. subst (λ t. pos 0 ≤ℤ t) (e i l) (h.nonnegative i l);
  columns =
      λ j l. subst (λ t. pos 0 ≤ℤ t)
      (sum_ext P.m (λ i. w i *ℤ P.a i j) (λ i. w' i *ℤ P.a i j) (λ i il. ap (λ t. t *ℤ P.a i j) (e i il)))
      (h.columns j l);
  below =
      subst (λ t. t <ℤ pos 0) (sum_ext P.m (λ i. w i *ℤ P.b i) (λ i. w' i *ℤ P.b i)
      (λ i il. ap (λ t. t *ℤ P.b i) (e i il))) h.below;
}

-- a program, from its parts
sized_is : (P : Program) (n m : ℕ) → P.n ≡ n → P.m ≡ m → sized n m P.a P.b P.c ≡ P
sized_is P n m en em = sym (ap₂ (λ v w. sized v w P.a P.b P.c) en em)

module _ (IsEnd : Columns → Type 0) (s : Solver) (a : Matrix) (b c : Vector)
    (h : StandsFor (sized s.columns (positions s) a b c) s.dictionary) where
  stands : StandsWith (system_of (sized s.columns (positions s) a b c)) (columns_of s.basis) (entries s)
  stands = shown_stands s a b c h.stands

  sized_optimum : s.state ≡ Optimal
      → (EndsAtOptimum (sized s.columns (positions s) a b c) (columns_of s.basis) → IsEnd (columns_of s.basis))
      → EndsIn (sized s.columns (positions s) a b c) None s.dictionary
      → IsOptimumAt IsEnd (sized s.columns (positions s) a b c) s
  sized_optimum state end e =
      let none : IsNonnegative (s.columns + positions s)
      (without_column (sized s.columns (positions s) a b c) (rows_of s.dictionary) (positions s)) =
      (λ k l. subst (λ v. pos 0 ≤ℤ rows_of s.dictionary (positions s) v) (sym (low_place s k l)) (e k l)) in
      let o : EndsOptimal (system_of (sized s.columns (positions s) a b c)) (entries s) = record {
        feasible = lex_feasible (system_of (sized s.columns (positions s) a b c)) (entries s) stands.feasible;
        no_improving =
            none_improves_parallel (system_of (sized s.columns (positions s) a b c))
            (without_column (sized s.columns (positions s) a b c) (rows_of s.dictionary)) (entries s)
            (shown_parallel s a b c h.stands) none;
      } in
      let f = basic_point s a b c stands.is_basis in
      let d : pos 0 <ℤ entries s (positions s) (s.columns + positions s) =
      own_positive (system_of (sized s.columns (positions s) a b c))
      (own_of (system_of (sized s.columns (positions s) a b c)) (columns_of s.basis)) (entries s) stands.is_basis in
      let scaled : IsScaled (positions s) (dual_of s) (entries s (positions s) (s.columns + positions s))
      (λ i. entries s (positions s) (s.columns + i)) =
      over_scaled (positions s) (entries s (positions s) (s.columns + positions s))
      (λ i. entries s (positions s) (s.columns + i)) d in
      let y =
      optimal_duals_ℚ (sized s.columns (positions s) a b c)
      (own_of (system_of (sized s.columns (positions s) a b c)) (columns_of s.basis)) (entries s) (point_of s)
      (dual_of s) stands.is_basis o f scaled in
      let v = value_is s a b c stands.is_basis o.feasible in
      record {
        state = state;
        point = record { last = end (entries s, stands.is_basis, o); basis = stands.is_basis; basic = f };
        ends = o;
        scaled = scaled;
        optimal =
            optimal_ending (sized s.columns (positions s) a b c)
            (own_of (system_of (sized s.columns (positions s) a b c)) (columns_of s.basis)) (entries s) (point_of s)
            stands.is_basis o f;
        dual = y.0;
        value = v;
        dual_value = sym y.1 ∙ v;
      }

  sized_ray : HasRay s → (EndsAtRay (sized s.columns (positions s) a b c) (columns_of s.basis)
      → IsEnd (columns_of s.basis))
      → EndsIn (sized s.columns (positions s) a b c) (Some (column_of s.state)) s.dictionary
      → IsRayAt IsEnd (sized s.columns (positions s) a b c) s
  sized_ray state end e =
      let inside : column_of s.state < s.columns + positions s = e.0.inside in
      let par = shown_parallel s a b c h.stands in
      let enters : Enters (system_of (sized s.columns (positions s) a b c)) (entries s) (column_of s.state) =
      enters_parallel (system_of (sized s.columns (positions s) a b c))
      (without_column (sized s.columns (positions s) a b c) (rows_of s.dictionary)) (entries s) (column_of s.state) par
      (enters_without (sized s.columns (positions s) a b c) (rows_of s.dictionary) (column_of s.state) inside
      e.0.negative e.0.first) in
      let u : EndsUnbounded (system_of (sized s.columns (positions s) a b c))
      (own_of (system_of (sized s.columns (positions s) a b c)) (columns_of s.basis)) (entries s) (column_of s.state) =
      record {
        feasible = lex_feasible (system_of (sized s.columns (positions s) a b c)) (entries s) stands.feasible;
        inside = inside;
        improving = enters.improving;
        no_limit =
            no_limit_parallel (system_of (sized s.columns (positions s) a b c))
            (without_column (sized s.columns (positions s) a b c) (rows_of s.dictionary)) (entries s)
            (column_of s.state) inside par
            (λ i l. subst (λ v. rows_of s.dictionary i v ≤ℤ pos 0) (sym (low_place s (column_of s.state) inside))
            (e.1 i l));
      } in
      let f = basic_point s a b c stands.is_basis in
      let g = basic_move s a b c stands.is_basis inside enters.improving in
      let w =
      unbounded_ending (sized s.columns (positions s) a b c)
      (own_of (system_of (sized s.columns (positions s) a b c)) (columns_of s.basis)) (entries s) (column_of s.state)
      (point_of s) (ray_of s) stands.is_basis u f g in
      record {
        state = state;
        point =
            record {
              last = end (entries s, column_of s.state, stands.is_basis, enters, u);
              basis =
                  stands.is_basis;
              basic = f;
            };
        enters = enters;
        ends = u;
        move = g;
        feasible = w.0;
        improving = w.1;
        unbounded = w.2;
      }

-- what the solver divides by is positive
module _ (s : Solver) (a : Matrix) (b c : Vector) (h : StandsFor (sized s.columns (positions s) a b c) s.dictionary)
  where
    sized_own : (i : ℕ) → i < positions s → (columns_of s.basis i < s.columns + positions s)
        × (pos 0 <ℤ rows_of s.dictionary i (columns_of s.basis i))
    sized_own i l =
        let e : own_of (system_of (sized s.columns (positions s) a b c)) (columns_of s.basis) i ≡ columns_of s.basis i =
        own_low (system_of (sized s.columns (positions s) a b c)) (columns_of s.basis) i l in
        let low : columns_of s.basis i < s.columns + positions s =
        subst (λ k. k < s.columns + positions s) e (h.stands.multiples.inside i l) in (
          low,
          subst (λ k. pos 0 <ℤ rows_of s.dictionary i k) (low_place s (columns_of s.basis i) low)
              (subst (λ k. pos 0 <ℤ without_column (sized s.columns (positions s) a b c) (rows_of s.dictionary) i k) e
              (h.stands.multiples.rows_of i (omega arith)).positive),
        )

    sized_objective : pos 0 <ℤ rows_of s.dictionary (positions s) (suc (s.columns + positions s))
    sized_objective =
        subst (λ k. pos 0 <ℤ rows_of s.dictionary (positions s) k)
        (high_place s (s.columns + positions s) (omega arith))
        (subst (λ k. pos 0 <ℤ without_column (sized s.columns (positions s) a b c) (rows_of s.dictionary) (positions s)
        k)
        h.stands.multiples.last (h.stands.multiples.rows_of (positions s) (omega arith)).positive)

-- ---- of a program of the solver's size
module _ (P : Program) (s : Solver) (h : StandsFor P s.dictionary) where
  program_is : sized s.columns (positions s) P.a P.b P.c ≡ P
  program_is = sized_is P s.columns (positions s) (sym h.columns_are) (sym h.rows_are)

  stood : StandsFor (sized s.columns (positions s) P.a P.b P.c) s.dictionary
  stood = subst (λ (Q : Program). StandsFor Q s.dictionary) (sym program_is) h

  pub optimum_at : (IsEnd : Columns → Type 0) → s.state ≡ Optimal
      → (EndsAtOptimum P (columns_of s.basis) → IsEnd (columns_of s.basis)) → EndsIn P None s.dictionary
      → IsOptimumAt IsEnd P s
  optimum_at IsEnd state end e =
      subst (λ (Q : Program). IsOptimumAt IsEnd Q s) program_is
      (sized_optimum IsEnd s P.a P.b P.c stood state
      (subst (λ (Q : Program). EndsAtOptimum Q (columns_of s.basis) → IsEnd (columns_of s.basis)) (sym program_is) end)
      (subst (λ (Q : Program). EndsIn Q None s.dictionary) (sym program_is) e))

  pub ray_at : (IsEnd : Columns → Type 0) → HasRay s → (EndsAtRay P (columns_of s.basis) → IsEnd (columns_of s.basis))
      → EndsIn P (Some (column_of s.state)) s.dictionary → IsRayAt IsEnd P s
  ray_at IsEnd state end e =
      subst (λ (Q : Program). IsRayAt IsEnd Q s) program_is
      (sized_ray IsEnd s P.a P.b P.c stood state
      (subst (λ (Q : Program). EndsAtRay Q (columns_of s.basis) → IsEnd (columns_of s.basis)) (sym program_is) end)
      (subst (λ (Q : Program). EndsIn Q (Some (column_of s.state)) s.dictionary) (sym program_is) e))

  pub own_in_range : (i : ℕ) → i < positions s → (columns_of s.basis i < s.columns + positions s)
      × (pos 0 <ℤ rows_of s.dictionary i (columns_of s.basis i))
  own_in_range = sized_own s P.a P.b P.c stood

  pub objective_entry : pos 0 <ℤ rows_of s.dictionary (positions s) (suc (s.columns + positions s))
  objective_entry = sized_objective s P.a P.b P.c stood

  -- the rows that are shown are those of the basis
  pub shown_basis : IsBasis (system_of P) (own_of (system_of P) (columns_of s.basis)) (entries s)
  shown_basis =
      subst (λ (Q : Program). IsBasis (system_of Q) (own_of (system_of Q) (columns_of s.basis)) (entries s)) program_is
      (shown_stands s P.a P.b P.c stood.stands).is_basis

-- ---- at the end of the program's path, and of one that goes on from a basis
pub optimum : (P : Program) (s : Solver) → InSecond P s.dictionary → s.state ≡ Optimal → EndsIn P None s.dictionary
    → IsOptimumOf P s
optimum P s h state e = optimum_at P s h.own (Last P) state (optimum_is_last P (columns_of s.basis) h.reached) e

pub ray_found : (P : Program) (s : Solver) → InSecond P s.dictionary → HasRay s
    → EndsIn P (Some (column_of s.state)) s.dictionary → IsRayOf P s
ray_found P s h state e = ray_at P s h.own (Last P) state (ray_is_last P (columns_of s.basis) h.reached) e

pub optimum_from : {P : Program} {start : Columns} (s : Solver) → s.state ≡ Optimal
    → EndsFrom P start None s.dictionary → IsOptimumAt (LastFrom P start) P s
optimum_from {P = P} {start = start} s state h =
    optimum_at P s h.own (LastFrom P start) state (optimum_last_from P start (columns_of s.basis) h.reached) h.ends

pub ray_from : {P : Program} {start : Columns} (s : Solver) → HasRay s
    → EndsFrom P start (Some (column_of s.state)) s.dictionary → IsRayAt (LastFrom P start) P s
ray_from {P = P} {start = start} s state h =
    ray_at P s h.own (LastFrom P start) state (ray_last_from P start (columns_of s.basis) h.reached) h.ends

pub weights_found : (P : Program) (s : Solver) → HasWeights s → AreWeights P s.basis s.weights → HasWeightsFor P s
weights_found P s state h =
    let aux : HasAuxiliary P (columns_of s.basis) = h.ends.1 in
    let w : ShowsEmpty P (weights_of s) =
    shows_ext P (λ i. h.ends.0 P.m (P.n + i)) (weights_of s) h.entries
    (infeasible P (own_of (auxiliary_of P) (columns_of s.basis)) h.ends.0 h.ends.2 h.ends.3.no_improving
    h.ends.3.below) in
    record {
      state = state;
      last = first_phase_is_last P (columns_of s.basis) h.reached h.ends;
      ending = record { rows = h.ends.0; basis = h.ends.2; ends = h.ends.3; weights_are = h.entries };
      weights = w;
      primitive = λ d k.
          farkas_primitive P (own_of (auxiliary_of P) (columns_of s.basis)) h.ends.0 aux.0 h.ends.2 aux.1
          (own_low (auxiliary_of P) (columns_of s.basis) aux.0 aux.1 ∙ sym aux.2) d
          (λ i l. subst (λ t. d ∣ unsigned_abs t) (sym (h.entries i l)) (k i l));
      infeasible = farkas P (weights_of s) w;
    }
