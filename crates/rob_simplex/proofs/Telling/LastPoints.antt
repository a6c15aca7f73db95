-- The numbers of the last basis are the basic solution, the basic direction, dual values and weights.
use Rattle.std.proofs.Common.{◌≡◌, ◌≢◌, ℕ, suc, ◌+◌, ◌<◌, ◌≤◌, sym, ap, ◌∙◌, subst, arith, inl, inr, Some, None}
use Rattle.std.proofs.lemmas.Bool.Decides.{nat_tests}
use lib.IntN.{ℤ, pos, neg_ℤ, nat_abs, ◌*ℤ◌}
use lib.Signed.{◌<ℤ◌, ◌≤ℤ◌}
use Rattle.rob_algebra.specs.Fraction.{of_int, of_pair, ◌*ℚ◌}
use Rattle.rob_linear.specs.Vectors.{Matrix, Vector, dot}
use Rattle.rob_linear.specs.Systems.{System, IsBasis, Point}
use Rattle.rob_linear.specs.Programs.{Program, system_of}
use Rattle.rob_linear.specs.Turns.{own_of}
use Rattle.rob_linear.specs.Optimality.{objective_at, IsBasicPoint, IsBasicMove, IsScaled}
use Rattle.rob_linear.proofs.Bases.Unique.{own_apart, point_exists}
use Rattle.rob_linear.proofs.Meaning.Endings.{point_is_solution, own_positive, improving_not_basic}
use Rattle.rob_linear.proofs.LinearPrograms.Programs.{value_of as coordinate_of}
use Rattle.rob_linear.proofs.LinearPrograms.Scaling.{cancel_ℚ, linear_form-scaled, over_scaled}
use Rattle.rob_linear.proofs.Meaning.Optimality.{point_scaled, basic_scaled}
use Rattle.rob_linear.proofs.Bases.Turns.{own_low}
use Rattle.rob_simplex.specs.Dictionaries.{sized, columns_of}
use Rattle.rob_simplex.specs.Solvers.{Solver, positions, entries, column_of}
use Rattle.rob_simplex.specs.Solutions.{position_of, at_position, over_own, point_of, ray_of, value_of}
use Rattle.rob_simplex.proofs.Places.Positions.{position_cases}

-- a quotient, multiplied by its divisor
times_quotient : (p v : ℤ) → pos 0 <ℤ p → of_int p *ℚ of_pair v (nat_abs p) ≡ of_int v
times_quotient p v pp = over_scaled 1 p (λ j. v) pp 0 (omega arith)

-- the ray in another column than the growing one
pub ray_elsewhere : (s : Solver) (column : ℕ) → column ≢ column_of s.state
    → ray_of s column ≡ at_position (position_of s.basis column)
    (over_own s (λ i. neg_ℤ (entries s i (column_of s.state))))
ray_elsewhere s column d = grind (arith, nat_tests)

ray_there : (s : Solver) → ray_of s (column_of s.state) ≡ of_int (pos 1)
ray_there s = grind (arith, nat_tests)

module _ (s : Solver) (a : Matrix) (b c : Vector)
    (basis : IsBasis (system_of (sized s.columns (positions s) a b c))
    (own_of (system_of (sized s.columns (positions s) a b c)) (columns_of s.basis)) (entries s)) where
  abbrev P : Program
  P = sized s.columns (positions s) a b c

  abbrev own : ℕ → ℕ
  own = own_of (system_of (sized s.columns (positions s) a b c)) (columns_of s.basis)

  own_is : (i : ℕ) → i < positions s
      → own_of (system_of (sized s.columns (positions s) a b c)) (columns_of s.basis) i ≡ columns_of s.basis i
  own_is i l = own_low (system_of (sized s.columns (positions s) a b c)) (columns_of s.basis) i l

  -- the position of a basic column is the first one
  position_is : (i : ℕ) → i < positions s
      → position_of s.basis (own_of (system_of (sized s.columns (positions s) a b c)) (columns_of s.basis) i) ≡ Some i
  position_is i l =
      elim (position_cases s.basis (own_of (system_of (sized s.columns (positions s) a b c)) (columns_of s.basis) i)) [
        | inl h ↦
            let hl : h.0 < positions s = h.1 in
            let e : own_of (system_of (sized s.columns (positions s) a b c)) (columns_of s.basis) h.0 ≡ own_of
            (system_of (sized s.columns (positions s) a b c)) (columns_of s.basis) i = own_is h.0 hl ∙ h.2 in
            let k : h.0 ≡ i =
            own_apart (system_of (sized s.columns (positions s) a b c))
            (own_of (system_of (sized s.columns (positions s) a b c)) (columns_of s.basis)) (entries s) basis h.0 i
            (omega arith) (omega arith) e in
            h.3 ∙ ap Some k
        | inr h ↦ absurd (h.0 i l (sym (own_is i l)))
      ]

  position_no : (k : ℕ) → ((i : ℕ) → i < positions s
      → k ≢ own_of (system_of (sized s.columns (positions s) a b c)) (columns_of s.basis) i)
      → position_of s.basis k ≡ None
  position_no k out =
      elim (position_cases s.basis k) [
        | inl h ↦ absurd (out h.0 h.1 (sym (own_is h.0 h.1 ∙ h.2)))
        | inr h ↦ h.1
      ]

  own_quotient : (v : ℕ → ℤ) (i : ℕ) → i < positions s
      → of_int (entries s i (own_of (system_of (sized s.columns (positions s) a b c)) (columns_of s.basis) i))
      *ℚ over_own s v i ≡ of_int (v i)
  own_quotient v i l =
      ap (λ k. of_int (entries s i k) *ℚ over_own s v i) (own_is i l)
      ∙ times_quotient (entries s i (columns_of s.basis i)) (v i)
      (subst (λ k. pos 0 <ℤ entries s i k) (own_is i l) (basis.rows_of i (omega arith)).positive)

  pub basic_point : IsBasicPoint (system_of (sized s.columns (positions s) a b c))
      (own_of (system_of (sized s.columns (positions s) a b c)) (columns_of s.basis)) (entries s) (point_of s)
  basic_point = record {
    basic = λ i l.
        let r : s.columns + positions s + 1 ≡ suc (s.columns + positions s) = omega arith in
        ap
        (λ o. of_int (entries s i (own_of (system_of (sized s.columns (positions s) a b c)) (columns_of s.basis) i))
        *ℚ at_position o (over_own s (λ j. entries s j (s.columns + positions s + 1)))) (position_is i l)
        ∙ own_quotient (λ j. entries s j (s.columns + positions s + 1)) i l
        ∙ ap (λ k. of_int (entries s i k)) r;
    rest =
        λ k kl out. ap (λ o. at_position o (over_own s (λ j. entries s j (s.columns + positions s + 1))))
        (position_no k out);
  }

  pub basic_move : column_of s.state < s.columns + positions s → entries s (positions s) (column_of s.state) <ℤ pos 0
      → IsBasicMove (system_of (sized s.columns (positions s) a b c))
      (own_of (system_of (sized s.columns (positions s) a b c)) (columns_of s.basis)) (entries s) (column_of s.state)
      (ray_of s)
  basic_move inside improving =
      let away : (j : ℕ) → j ≤ positions s
      → column_of s.state ≢ own_of (system_of (sized s.columns (positions s) a b c)) (columns_of s.basis) j =
      improving_not_basic (system_of (sized s.columns (positions s) a b c))
      (own_of (system_of (sized s.columns (positions s) a b c)) (columns_of s.basis)) (entries s) (column_of s.state)
      basis inside improving in
      record {
        entering = ray_there s;
        basic = λ i l.
            let d : own_of (system_of (sized s.columns (positions s) a b c)) (columns_of s.basis) i ≢ column_of
            s.state = (λ e. away i (omega arith) (sym e)) in
            ap
            (λ x. of_int (entries s i (own_of (system_of (sized s.columns (positions s) a b c)) (columns_of s.basis) i))
            *ℚ x) (ray_elsewhere s (own_of (system_of (sized s.columns (positions s) a b c)) (columns_of s.basis) i) d)
            ∙ ap
            (λ o. of_int (entries s i (own_of (system_of (sized s.columns (positions s) a b c)) (columns_of s.basis) i))
            *ℚ at_position o (over_own s (λ j. neg_ℤ (entries s j (column_of s.state))))) (position_is i l)
            ∙ own_quotient (λ j. neg_ℤ (entries s j (column_of s.state))) i l;
        rest =
            λ k kl out d. ray_elsewhere s k d
            ∙ ap (λ o. at_position o (over_own s (λ j. neg_ℤ (entries s j (column_of s.state))))) (position_no k out);
      }

  -- the value of the point
  pub value_is : ((i : ℕ) → i < positions s → pos 0 ≤ℤ entries s i (suc (s.columns + positions s)))
      → objective_at (sized s.columns (positions s) a b c) (point_of s) ≡ value_of s
  value_is feasible =
      let S : System = system_of (sized s.columns (positions s) a b c) in
      let p : (t : ℤ) × (z : ℕ → ℤ)
      × Point (system_of (sized s.columns (positions s) a b c))
      (own_of (system_of (sized s.columns (positions s) a b c)) (columns_of s.basis)) (entries s) t z =
      point_exists (system_of (sized s.columns (positions s) a b c))
      (own_of (system_of (sized s.columns (positions s) a b c)) (columns_of s.basis)) (entries s) basis in
      let sol =
      point_is_solution (system_of (sized s.columns (positions s) a b c))
      (own_of (system_of (sized s.columns (positions s) a b c)) (columns_of s.basis)) (entries s) p.0 p.1 basis feasible
      p.2 in
      let coordinate : p.1 (s.columns + positions s) ≡ dot s.columns c p.1 =
      coordinate_of (sized s.columns (positions s) a b c) p.0 p.1 sol.solves in
      let x : IsScaled s.columns (point_of s) p.0 p.1 =
      (λ j l. point_scaled (system_of (sized s.columns (positions s) a b c))
      (own_of (system_of (sized s.columns (positions s) a b c)) (columns_of s.basis)) (entries s) (point_of s) p.0 p.1
      basis basic_point p.2 j (omega arith)) in
      let d : pos 0 <ℤ entries s (positions s) (s.columns + positions s) =
      own_positive (system_of (sized s.columns (positions s) a b c))
      (own_of (system_of (sized s.columns (positions s) a b c)) (columns_of s.basis)) (entries s) basis in
      let r : s.columns + positions s + 1 ≡ suc (s.columns + positions s) = omega arith in
      let v : of_int (entries s (positions s) (s.columns + positions s)) *ℚ value_of s ≡ of_int
      (entries s (positions s) (suc (s.columns + positions s))) =
      times_quotient (entries s (positions s) (s.columns + positions s))
      (entries s (positions s) (s.columns + positions s + 1)) d ∙ ap (λ k. of_int (entries s (positions s) k)) r in
      let row : entries s (positions s) (s.columns + positions s) *ℤ p.1 (s.columns + positions s) ≡ p.0 *ℤ entries s
      (positions s) (suc (s.columns + positions s)) =
      subst (λ k. entries s (positions s) k *ℤ p.1 k ≡ p.0 *ℤ entries s (positions s) (suc (s.columns + positions s)))
      basis.last (p.2.basic (positions s) (omega arith)) in
      cancel_ℚ p.0 (objective_at (sized s.columns (positions s) a b c) (point_of s)) (value_of s) p.2.scale
      (linear_form-scaled s.columns c (point_of s) p.0 p.1 x ∙ ap of_int (sym coordinate)
      ∙ sym (basic_scaled (entries s (positions s) (s.columns + positions s)) p.0 (value_of s)
      (p.1 (s.columns + positions s)) (entries s (positions s) (suc (s.columns + positions s))) d v row))
