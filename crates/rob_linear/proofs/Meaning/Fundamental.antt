-- The theorems of linear programming, from the path of bases: each program has a best point, is unbounded or is
-- infeasible; a best point has dual values of the same value; and where no point is feasible some weights show it.
-- Chvatal, Linear Programming (1983): theorem 3.4, theorem 5.1, chapter 9.
use Rattle.std.proofs.Common.{◌≡◌, ℕ, suc, ◌+◌, sym, ap, ◌∙◌, arith, inl, inr, ◌⊎◌, [], ◌∷◌, refl}
use Rattle.std.proofs.lemmas.Int.{ints}
use lib.IntN.{ℤ, pos, ◌*ℤ◌}
use Rattle.rob_algebra.specs.Polynomials.{lit, ◌:+◌, v0}
use Rattle.rob_algebra.specs.Fraction.{Fraction, of_int, ◌+ℚ◌, ◌*ℚ◌, ◌≤ℚ◌, ◌<ℚ◌}
use Rattle.rob_algebra.specs.FractionLaws.{of_int-mul}
use Rattle.rob_algebra.specs.FractionOrderLaws.{le_antisym_ℚ, le_trans_ℚ, not_lt_ℚ, lt_from}
use Rattle.rob_linear.specs.Systems.{System, right, IsBasis, Point, Move, EndsOptimal}
use Rattle.rob_linear.specs.Programs.{Program, system_of, auxiliary_of, ShowsEmpty}
use Rattle.rob_linear.specs.Optimality.{IsFeasible, objective_at, IsOptimal, IsInfeasible, IsUnbounded, IsDualFeasible, dual_objective_at, IsScaled, IsBasicPoint}
use Rattle.rob_linear.specs.Turns.{own_of}
use Rattle.rob_linear.specs.Paths.{Last}
use Rattle.rob_linear.proofs.Bases.Solutions.{own_below}
use Rattle.rob_linear.proofs.Meaning.Endings.{own_positive, improving_not_basic}
use Rattle.rob_linear.proofs.Bases.Unique.{point_exists, move_exists}
use Rattle.rob_linear.proofs.Meaning.Truths.{infeasible, unbounded}
use Rattle.rob_linear.proofs.LinearPrograms.Scaling.{cancel_ℚ, swap_factor, zero_scaled, over, over_scaled}
use Rattle.rob_linear.proofs.Meaning.Optimality.{not_objective, optimal_ending, optimal_duals_ℚ, farkas, no_greatest_is_unbounded}
use Rattle.rob_linear.proofs.BasisPaths.LastBases.{HasEnded, last_ends, last_exists}
use Rattle.rob_algebra.proofs.WholeNumbers.{of_int_lt}

-- each basis has a basic solution
pub basic_point_exists : (S : System) (own : ℕ → ℕ) (rows : ℕ → ℕ → ℤ) → IsBasis S own rows → (x : ℕ → Fraction)
    × IsBasicPoint S own rows x
basic_point_exists S own rows b =
    let p : (s : ℤ) × (z : ℕ → ℤ) × Point S own rows s z = point_exists S own rows b in
    let h : IsScaled (suc S.columns) (over p.0 p.1) p.0 p.1 = over_scaled (suc S.columns) p.0 p.1 p.2.scale in (
      over p.0 p.1,
      record {
        basic = λ i l.
            let e : rows i (own i) *ℤ p.1 (own i) ≡ p.0 *ℤ rows i (right S) = p.2.basic i (omega arith) in
            cancel_ℚ p.0 (of_int (rows i (own i)) *ℚ over p.0 p.1 (own i)) (of_int (rows i (right S))) p.2.scale
            (swap_factor p.0 (rows i (own i)) (over p.0 p.1 (own i))
            ∙ ap (λ v. of_int (rows i (own i)) *ℚ v) (h (own i) (own_below S own rows b i (omega arith)))
            ∙ sym (of_int-mul (rows i (own i)) (p.1 (own i))) ∙ ap of_int e ∙ of_int-mul p.0 (rows i (right S)));
        rest = λ k kl out.
            cancel_ℚ p.0 (over p.0 p.1 k) (of_int (pos 0)) p.2.scale
            (h k (omega arith) ∙ ap of_int (p.2.rest k (omega arith) (not_objective S own rows k b kl out))
            ∙ sym (zero_scaled p.0));
      },
    )

-- a best point and dual values of one value, where the path ends at an optimum
optimum_values : (P : Program) (own : ℕ → ℕ) (rows : ℕ → ℕ → ℤ) → IsBasis (system_of P) own rows
    → EndsOptimal (system_of P) rows → (x : ℕ → Fraction) × (y : ℕ → Fraction) × IsOptimal P x × IsDualFeasible P y
    × (objective_at P x ≡ dual_objective_at P y)
optimum_values P own rows b o =
    let x : (x : ℕ → Fraction) × IsBasicPoint (system_of P) own rows x = basic_point_exists (system_of P) own rows b in
    let d : ℤ = rows P.m (P.n + P.m) in
    let y : ℕ → Fraction = over (rows P.m (P.n + P.m)) (λ i. rows P.m (P.n + i)) in
    let v : IsDualFeasible P (over (rows P.m (P.n + P.m)) (λ i. rows P.m (P.n + i)))
    × (objective_at P x.0 ≡ dual_objective_at P (over (rows P.m (P.n + P.m)) (λ i. rows P.m (P.n + i)))) =
    optimal_duals_ℚ P own rows x.0 (over (rows P.m (P.n + P.m)) (λ i. rows P.m (P.n + i))) b o x.1
    (over_scaled P.m (rows P.m (P.n + P.m)) (λ i. rows P.m (P.n + i)) (own_positive (system_of P) own rows b)) in
    (x.0, over (rows P.m (P.n + P.m)) (λ i. rows P.m (P.n + i)), optimal_ending P own rows x.0 b o x.1, v.0, v.1)

-- what the end of the path tells
pub path_tells : (P : Program)
    → ((x : ℕ → Fraction) × (y : ℕ → Fraction) × IsOptimal P x × IsDualFeasible P y
    × (objective_at P x ≡ dual_objective_at P y)) ⊎ (IsUnbounded P ⊎ ((w : ℕ → ℤ) × ShowsEmpty P w))
path_tells P =
    let l : (basis : ℕ → ℕ) × Last P basis = last_exists P in
    let h : HasEnded P l.0 = last_ends P l.0 l.1 in
    elim h [
      | inl o ↦ inl (optimum_values P (own_of (system_of P) l.0) o.0 o.1 o.2)
      | inr (inl u) ↦
          let own : ℕ → ℕ = own_of (system_of P) l.0 in
          let p : (s : ℤ) × (z : ℕ → ℤ) × Point (system_of P) (own_of (system_of P) l.0) u.0 s z =
          point_exists (system_of P) (own_of (system_of P) l.0) u.0 u.2 in
          let v : (s : ℤ) × (z : ℕ → ℤ) × Move (system_of P) (own_of (system_of P) l.0) u.0 u.1 s z =
          move_exists (system_of P) (own_of (system_of P) l.0) u.0 u.1 u.2
          (improving_not_basic (system_of P) (own_of (system_of P) l.0) u.0 u.1 u.2 u.4.inside u.4.improving) in
          inr (inl (no_greatest_is_unbounded P
          (unbounded P (own_of (system_of P) l.0) u.0 u.1 p.0 p.1 v.0 v.1 u.2 u.4 p.2 v.2)))
      | inr (inr f) ↦
          inr (inr (
            (λ i. f.0 P.m (P.n + i)),
            infeasible P (own_of (auxiliary_of P) l.0) f.0 f.2 f.3.no_improving f.3.below,
          ))
    ]

-- each program has a best point, is unbounded, or is infeasible
pub fundamental_theorem : (P : Program) → ((x : ℕ → Fraction) × IsOptimal P x) ⊎ (IsUnbounded P ⊎ IsInfeasible P)
fundamental_theorem P =
    elim (path_tells P) [
      | inl o ↦ inl (o.0, o.2)
      | inr (inl u) ↦ inr (inl u)
      | inr (inr w) ↦ inr (inr (farkas P w.0 w.1))
    ]

-- where no point is feasible, some weights show it
pub farkas_lemma : (P : Program) → IsInfeasible P → (w : ℕ → ℤ) × ShowsEmpty P w
farkas_lemma P none =
    elim (path_tells P) [
      | inl o ↦ absurd (none o.0 o.2.feasible)
      | inr (inl u) ↦ let v : (x : ℕ → Fraction) × IsFeasible P x × (of_int (pos 0) ≤ℚ objective_at P x) =
          u (of_int (pos 0)) in absurd (none v.0 v.1)
      | inr (inr w) ↦ w
    ]

one_more : (x : Fraction) → x <ℚ x +ℚ of_int (pos 1)
one_more x =
    lt_from (x ∷ []) v0 (v0 :+ lit (pos 1)) (lit (pos 1)) refl (of_int_lt (pos 0) (pos 1) (omega (arith, ints)))

-- a best point's value is that of some dual values
pub strong_duality : (P : Program) (x : ℕ → Fraction) → IsOptimal P x → (y : ℕ → Fraction) × IsDualFeasible P y
    × (objective_at P x ≡ dual_objective_at P y)
strong_duality P x b =
    elim (path_tells P) [
      | inl o ↦ (
        o.1,
        o.3,
        le_antisym_ℚ (objective_at P x) (objective_at P o.0) (o.2.best x b.feasible) (b.best o.0 o.2.feasible) ∙ o.4,
      )
      | inr (inl u) ↦
          let v : (z : ℕ → Fraction) × IsFeasible P z × (objective_at P x +ℚ of_int (pos 1) ≤ℚ objective_at P z) =
          u (objective_at P x +ℚ of_int (pos 1)) in
          absurd (not_lt_ℚ (objective_at P x +ℚ of_int (pos 1)) (objective_at P x)
          (le_trans_ℚ (objective_at P x +ℚ of_int (pos 1)) (objective_at P v.0) (objective_at P x) v.2
          (b.best v.0 v.1)) (one_more (objective_at P x)))
      | inr (inr w) ↦ absurd (farkas P w.0 w.1 x b.feasible)
    ]
