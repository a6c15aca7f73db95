-- The endings of the simplex method, and duality, for points of fractions.
use Rattle.std.proofs.Common.{◌≡◌, ◌≢◌, ℕ, ◌+◌, ◌<◌, ◌≤◌, sym, ap, ◌∙◌, subst, arith, inl, inr}
use Rattle.std.proofs.lemmas.Int.{ints}
use Rattle.std.proofs.lemmas.Bool.{cases_eq}
use lib.IntN.{ℤ, pos, ◌*ℤ◌, neg_ℤ}
use lib.Signed.{◌<ℤ◌, ◌≤ℤ◌}
use Rattle.rob_algebra.specs.Integer.{ring, mul-one}
use Rattle.rob_algebra.specs.Fraction.{Fraction, of_int, ◌*ℚ◌, ◌≤ℚ◌}
use Rattle.rob_algebra.specs.Fraction.{den_pos}
use Rattle.rob_algebra.specs.FractionPairs.{pos_lt}
use Rattle.rob_algebra.specs.FractionLaws.{of_int-mul}
use Rattle.rob_algebra.specs.FractionOrderLaws.{le_antisym_ℚ}
use Rattle.rob_linear.specs.Vectors.{dot}
use Rattle.rob_linear.specs.Systems.{System, right, IsBasis, IsSolution, Point, Move, EndsOptimal, EndsUnbounded}
use Rattle.rob_linear.specs.Programs.{Program, Admits, system_of, ShowsEmpty, IsDual, IsBest, HasNoGreatest}
use Rattle.rob_linear.specs.Optimality.{IsFeasible, objective_at, IsOptimal, IsInfeasible, IsUnbounded, IsDualFeasible, dual_objective_at, IsImprovingRay, IsScaled, IsBasicPoint, IsBasicMove}
use Rattle.rob_linear.proofs.Bases.Solutions.{basic_or_not}
use Rattle.rob_linear.proofs.Meaning.Endings.{point_is_solution, move_is_ray, improving_not_basic, own_positive}
use Rattle.rob_linear.proofs.LinearPrograms.Programs.{admits_from_solution, keeps_from_solution, value_of}
use Rattle.rob_linear.proofs.Bases.Unique.{point_exists, move_exists}
use Rattle.rob_linear.proofs.Meaning.Truths.{optimal, optimal_duals, weak_duality, weights_show_empty, unbounded}
use Rattle.rob_linear.proofs.LinearPrograms.Scaling.{cancel_ℚ, swap_factor, zero_scaled, linear_form-scaled, den-times, cleared, over, over_scaled, le_cross, feasible_scaled, scaled_feasible, scaled_dual, dual_scaled, dual_objective-scaled, scaled_ray}

-- ---- basic points and moves are scaled ones
pub basic_scaled : (p s : ℤ) (x : Fraction) (z b : ℤ) → pos 0 <ℤ p → of_int p *ℚ x ≡ of_int b → p *ℤ z ≡ s *ℤ b
    → of_int s *ℚ x ≡ of_int z
basic_scaled p s x z b pp e f =
    cancel_ℚ p (of_int s *ℚ x) (of_int z) pp
    (swap_factor p s x ∙ ap (λ v. of_int s *ℚ v) e ∙ sym (of_int-mul s b) ∙ ap of_int (sym f) ∙ of_int-mul p z)

-- a column that is no position's below m is not position m's either
pub not_objective : (S : System) (own : ℕ → ℕ) (rows : ℕ → ℕ → ℤ) (k : ℕ) → IsBasis S own rows → k < S.columns
    → ((i : ℕ) → i < S.m → k ≢ own i) → (i : ℕ) → i ≤ S.m → k ≢ own i
not_objective S own rows k b kl out i il =
    elim (cases_eq i S.m) [
      | inl c ↦ (λ e. let w : own i ≡ S.columns = ap own c ∙ b.last in absurd (omega arith))
      | inr d ↦ out i (omega arith)
    ]

pub point_scaled : (S : System) (own : ℕ → ℕ) (rows : ℕ → ℕ → ℤ) (x : ℕ → Fraction) (s : ℤ) (z : ℕ → ℤ)
    → IsBasis S own rows → IsBasicPoint S own rows x → Point S own rows s z → IsScaled S.columns x s z
point_scaled S own rows x s z b f p k kl =
    elim (basic_or_not S.m own k) [
      | inl h ↦
          subst (λ v. of_int s *ℚ x v ≡ of_int (z v)) (sym h.2)
          (basic_scaled (rows h.0 (own h.0)) s (x (own h.0)) (z (own h.0)) (rows h.0 (right S))
          (b.rows_of h.0 (below h.0 h.1)).positive (f.basic h.0 h.1) (p.basic h.0 (below h.0 h.1)))
      | inr n ↦ ap (λ v. of_int s *ℚ v) (f.rest k kl n) ∙ zero_scaled s
          ∙ ap of_int (sym (p.rest k (omega arith) (not_objective S own rows k b kl n)))
    ]
  where
    below : (i : ℕ) → i < S.m → i ≤ S.m
    below i l = omega arith

pub move_scaled : (S : System) (own : ℕ → ℕ) (rows : ℕ → ℕ → ℤ) (col : ℕ) (r : ℕ → Fraction) (s : ℤ) (z : ℕ → ℤ)
    → IsBasis S own rows → IsBasicMove S own rows col r → Move S own rows col s z → IsScaled S.columns r s z
move_scaled S own rows col r s z b f p k kl =
    elim (basic_or_not S.m own k) [
      | inl h ↦
          subst (λ v. of_int s *ℚ r v ≡ of_int (z v)) (sym h.2)
          (basic_scaled (rows h.0 (own h.0)) s (r (own h.0)) (z (own h.0)) (neg_ℤ (rows h.0 col))
          (b.rows_of h.0 (below h.0 h.1)).positive (f.basic h.0 h.1) (p.basic h.0 (below h.0 h.1) ∙ simp ring))
      | inr n ↦
          elim (cases_eq k col) [
            | inl c ↦
                let u : r k ≡ of_int (pos 1) = ap r c ∙ f.entering in
                let w : z k ≡ s = ap z c ∙ p.entering in
                ap (λ v. of_int s *ℚ v) u ∙ sym (of_int-mul s (pos 1)) ∙ ap of_int (mul-one s ∙ sym w)
            | inr d ↦ ap (λ v. of_int s *ℚ v) (f.rest k kl n d) ∙ zero_scaled s
                ∙ ap of_int (sym (p.rest k (omega arith) (not_objective S own rows k b kl n) d))
          ]
    ]
  where
    below : (i : ℕ) → i < S.m → i ≤ S.m
    below i l = omega arith

-- ---- duality
pub best_is_optimal : (P : Program) (x : ℕ → Fraction) (s : ℤ) (z : ℕ → ℤ) → IsScaled P.n x s z
    → IsBest P s z → IsOptimal P x
best_is_optimal P x s z h b = record {
  feasible = scaled_feasible P x s z h b.admitted;
  best = λ y f.
      let w : (t : ℤ) × (u : ℕ → ℤ) × (pos 0 <ℤ t) × IsScaled P.n y t u = cleared P.n y in
      le_cross w.0 s (objective_at P y) (objective_at P x) (dot P.n P.c w.1) (dot P.n P.c z) w.2 b.admitted.scale
      (linear_form-scaled P.n P.c y w.0 w.1 w.3) (linear_form-scaled P.n P.c x s z h)
      (b.best w.0 w.1 (feasible_scaled P y w.0 w.1 w.2 w.3 f));
}

-- dual values bound each feasible point's value
pub weak_duality_ℚ : (P : Program) (x y : ℕ → Fraction) → IsFeasible P x → IsDualFeasible P y
    → objective_at P x ≤ℚ dual_objective_at P y
weak_duality_ℚ P x y f g =
    let w : (t : ℤ) × (u : ℕ → ℤ) × (pos 0 <ℤ t) × IsScaled P.n x t u = cleared P.n x in
    let v : (d : ℤ) × (u : ℕ → ℤ) × (pos 0 <ℤ d) × IsScaled P.m y d u = cleared P.m y in
    le_cross w.0 v.0 (objective_at P x) (dual_objective_at P y) (dot P.n P.c w.1) (dot P.m v.1 P.b) w.2 v.2
    (linear_form-scaled P.n P.c x w.0 w.1 w.3) (dual_objective-scaled P y v.0 v.1 v.3)
    (weak_duality P v.0 v.1 w.0 w.1 (dual_scaled P y v.0 v.1 v.2 v.3 g) (feasible_scaled P x w.0 w.1 w.2 w.3 f))

-- ---- the endings
pub optimal_ending : (P : Program) (own : ℕ → ℕ) (rows : ℕ → ℕ → ℤ) (x : ℕ → Fraction) → IsBasis (system_of P) own rows
    → EndsOptimal (system_of P) rows → IsBasicPoint (system_of P) own rows x → IsOptimal P x
optimal_ending P own rows x b o f =
    let p : (s : ℤ) × (z : ℕ → ℤ) × Point (system_of P) own rows s z = point_exists (system_of P) own rows b in
    best_is_optimal P x p.0 p.1 (λ j l. point_scaled (system_of P) own rows x p.0 p.1 b f p.2 j (omega arith))
    (optimal P own rows p.0 p.1 b o p.2)

pub optimal_duals_ℚ : (P : Program) (own : ℕ → ℕ) (rows : ℕ → ℕ → ℤ) (x y : ℕ → Fraction)
    → IsBasis (system_of P) own rows → EndsOptimal (system_of P) rows → IsBasicPoint (system_of P) own rows x
    → IsScaled P.m y (rows P.m (P.n + P.m)) (λ i. rows P.m (P.n + i)) → IsDualFeasible P y
    × (objective_at P x ≡ dual_objective_at P y)
optimal_duals_ℚ P own rows x y b o f h =
    let p : (s : ℤ) × (z : ℕ → ℤ) × Point (system_of P) own rows s z = point_exists (system_of P) own rows b in
    let h' : IsScaled P.n x p.0 p.1 = (λ j l. point_scaled (system_of P) own rows x p.0 p.1 b f p.2 j (omega arith)) in
    let d : IsDual P (rows P.m (P.n + P.m)) (λ i. rows P.m (P.n + i))
    × (rows P.m (P.n + P.m) *ℤ dot P.n P.c p.1 ≡ p.0 *ℤ dot P.m (λ i. rows P.m (P.n + i)) P.b) =
    optimal_duals P own rows p.0 p.1 b o p.2 in
    let e : rows P.m (P.n + P.m) *ℤ dot P.n P.c p.1 ≡ p.0 *ℤ dot P.m (λ i. rows P.m (P.n + i)) P.b = d.1 in
    let fx : of_int p.0 *ℚ objective_at P x ≡ of_int (dot P.n P.c p.1) = linear_form-scaled P.n P.c x p.0 p.1 h' in
    let fy : of_int (rows P.m (P.n + P.m)) *ℚ dual_objective_at P y ≡ of_int (dot P.m (λ i. rows P.m (P.n + i)) P.b) =
    dual_objective-scaled P y (rows P.m (P.n + P.m)) (λ i. rows P.m (P.n + i)) h in
    let op : pos 0 <ℤ rows P.m (P.n + P.m) = own_positive (system_of P) own rows b in (
      scaled_dual P y (rows P.m (P.n + P.m)) (λ i. rows P.m (P.n + i)) h d.0,
      le_antisym_ℚ (objective_at P x) (dual_objective_at P y)
          (le_cross p.0 (rows P.m (P.n + P.m)) (objective_at P x) (dual_objective_at P y) (dot P.n P.c p.1)
          (dot P.m (λ i. rows P.m (P.n + i)) P.b) p.2.scale op fx fy (omega (arith, ints)))
          (le_cross (rows P.m (P.n + P.m)) p.0 (dual_objective_at P y) (objective_at P x)
          (dot P.m (λ i. rows P.m (P.n + i)) P.b) (dot P.n P.c p.1) op p.2.scale fy fx (omega (arith, ints))),
    )

-- Farkas: weights show that no point is feasible
pub farkas : (P : Program) (w : ℕ → ℤ) → ShowsEmpty P w → IsInfeasible P
farkas P w h x f =
    let c : (t : ℤ) × (u : ℕ → ℤ) × (pos 0 <ℤ t) × IsScaled P.n x t u = cleared P.n x in
    weights_show_empty P w h c.0 c.1 (feasible_scaled P x c.0 c.1 c.2 c.3 f)

pub no_greatest_is_unbounded : (P : Program) → HasNoGreatest P → IsUnbounded P
no_greatest_is_unbounded P h t =
    let w : (s : ℤ) × (x : ℕ → ℤ) × Admits P s x × ((s *ℤ t.num) ≤ℤ (pos t.den *ℤ dot P.n P.c x)) =
    h t.num (pos t.den) (pos_lt t.den (den_pos t)) in
    let sp : pos 0 <ℤ w.0 = w.2.scale in (
      over w.0 w.1,
      scaled_feasible P (over w.0 w.1) w.0 w.1 (over_scaled P.n w.0 w.1 sp) w.2,
      le_cross (pos t.den) w.0 t (objective_at P (over w.0 w.1)) t.num (dot P.n P.c w.1)
          (pos_lt t.den (den_pos t)) sp (den-times t)
          (linear_form-scaled P.n P.c (over w.0 w.1) w.0 w.1 (over_scaled P.n w.0 w.1 sp)) w.3,
    )

pub unbounded_ending : (P : Program) (own : ℕ → ℕ) (rows : ℕ → ℕ → ℤ) (col : ℕ) (x r : ℕ → Fraction)
    → IsBasis (system_of P) own rows → EndsUnbounded (system_of P) own rows col → IsBasicPoint (system_of P) own rows x
    → IsBasicMove (system_of P) own rows col r → IsFeasible P x × IsImprovingRay P r × IsUnbounded P
unbounded_ending P own rows col x r b u f g =
    let p : (s : ℤ) × (z : ℕ → ℤ) × Point (system_of P) own rows s z = point_exists (system_of P) own rows b in
    let v : (s : ℤ) × (z : ℕ → ℤ) × Move (system_of P) own rows col s z =
    move_exists (system_of P) own rows col b
    (improving_not_basic (system_of P) own rows col b u.inside u.improving) in
    let sol : IsSolution (system_of P) p.0 p.1 = point_is_solution (system_of P) own rows p.0 p.1 b u.feasible p.2 in
    let ray : IsSolution (system_of P) (pos 0) v.1 × (pos 0 <ℤ v.1 (P.n + P.m)) =
    move_is_ray (system_of P) own rows col v.0 v.1 b u v.2 in (
      scaled_feasible P x p.0 p.1 (λ j l. point_scaled (system_of P) own rows x p.0 p.1 b f p.2 j (omega arith))
          (admits_from_solution P p.0 p.1 p.2.scale sol),
      scaled_ray P r v.0 v.1 v.2.scale (λ j l. move_scaled (system_of P) own rows col r v.0 v.1 b g v.2 j (omega arith))
          (keeps_from_solution P v.1 ray.0)
          (subst (λ w. pos 0 <ℤ w) (value_of P (pos 0) v.1 ray.0.solves) ray.1),
      no_greatest_is_unbounded P (unbounded P own rows col p.0 p.1 v.0 v.1 b u p.2 v.2),
    )
