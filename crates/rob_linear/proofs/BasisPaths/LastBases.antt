-- Each program's path ends, in one of three ways, and each of these tells the program's status.
use Rattle.std.proofs.Common.{◌≡◌, ℕ, zero, suc, ◌+◌, ◌^◌, ◌<◌, ◌≤◌, sym, refl, ap, ◌∙◌, subst, arith, inl, inr, ◌⊎◌, cond, eqb}
use Rattle.std.proofs.lemmas.Int.{ints, by_lt_z}
use Rattle.std.proofs.lemmas.Bool.Decides.{nat_tests}
use lib.IntN.{ℤ, pos, ◌+ℤ◌, ◌*ℤ◌}
use lib.Signed.{◌<ℤ◌, ◌≤ℤ◌}
use Rattle.rob_algebra.specs.Integer.{zero-mul, one-mul}
use Rattle.rob_linear.specs.Vectors.{dot}
use Rattle.rob_linear.specs.Systems.{IsBasis, IsNonnegative, IsSolution, Move, EndsUnbounded}
use Rattle.rob_linear.specs.Programs.{Program, system_of, auxiliary_row, auxiliary_of, EndsInfeasible}
use Rattle.rob_linear.specs.Turns.{ComesBefore, own_of, StandsWith}
use Rattle.rob_linear.specs.Paths.{HasAuxiliary, Steps, Turned, Reached, Last, EndsAtOptimum, EndsAtRay, EndsInFirstPhase}
use Rattle.rob_linear.proofs.Meaning.Endings.{sum_two, move_is_ray, improving_not_basic}
use Rattle.rob_linear.proofs.Bases.Unique.{move_exists}
use Rattle.rob_linear.proofs.BasisPaths.Starts.{auxiliary_tagged}
use Rattle.rob_linear.proofs.BasisPaths.Auxiliary.{auxiliary_positive}
use Rattle.rob_linear.proofs.Bases.Turns.{own_low, before_same}
use Rattle.rob_linear.proofs.Bases.Choices.{lex_feasible, first_negative, leaves_below, LeavesBelow, turn_or_end, optimal_ends, unbounded_ends}
use Rattle.rob_linear.proofs.BasisPaths.TwoPhases.{Standing, turned_standing}
use Rattle.rob_linear.proofs.BasisPaths.ProgramPaths.{turned_bounded}
use Rattle.rob_linear.proofs.LinearPrograms.Programs.{auxiliary_cost_entry, auxiliary_cost_objective, auxiliary_cost_zero, auxiliary_right}

-- ---- each program has a start

-- the starting rows, and behind the right side a column of ones
with_ones : Program → ℕ → ℕ → ℤ
with_ones P i k = cond (eqb k (suc (suc (suc (P.n + P.m))))) (pos 1) (auxiliary_row P i k)

ones_at : (P : Program) (i : ℕ) → with_ones P i (suc (suc (suc (P.n + P.m)))) ≡ pos 1
unfolding with_ones
ones_at P i = grind (arith, nat_tests)

ones_low : (P : Program) (i k : ℕ) → k ≤ suc (suc (P.n + P.m)) → with_ones P i k ≡ auxiliary_row P i k
unfolding with_ones
ones_low P i k l = grind (arith, nat_tests)

first_row : (P : Program) (e : ℕ) → LeavesBelow (auxiliary_of P) (with_ones P) (suc (suc (suc (P.n + P.m)))) P.m e
    → (i : ℕ) → i < P.m → ¬ (ComesBefore (auxiliary_of P) (auxiliary_row P i) (pos 1) (auxiliary_row P e) (pos 1))
first_row P e h i il c =
    h.2 i il (subst (λ v. pos 0 <ℤ v) (sym (ones_at P i)) (omega (arith, ints)))
    (before_same (auxiliary_of P) (auxiliary_row P i) (with_ones P i) (auxiliary_row P e) (with_ones P e) (pos 1)
    (with_ones P i (suc (suc (suc (P.n + P.m))))) (pos 1)
    (with_ones P e (suc (suc (suc (P.n + P.m))))) (auxiliary_tagged P)
    (λ k kl. sym (ones_low P i k kl)) (λ k kl. sym (ones_low P e k kl)) (sym (ones_at P i)) (sym (ones_at P e)) c)

-- the row that comes first is negative if one is
first_row_negative : (P : Program) (e t : ℕ) → e < P.m → t < P.m → P.b t <ℤ pos 0
    → ¬ (ComesBefore (auxiliary_of P) (auxiliary_row P t) (pos 1) (auxiliary_row P e) (pos 1)) → P.b e <ℤ pos 0
first_row_negative P e t el tl neg not =
    by_lt_z (P.b e) (pos 0) (λ h. h) (λ h.
    let a : auxiliary_row P e (suc (suc (P.n + P.m))) ≡ P.b e = auxiliary_right P e el in
    let b : auxiliary_row P t (suc (suc (P.n + P.m))) ≡ P.b t = auxiliary_right P t tl in
    absurd (not (0, omega arith, (λ j jl. absurd (omega arith)), omega (arith, ints))))

pub start_exists : (P : Program) → (basis : ℕ → ℕ) × Turned P zero basis
start_exists P =
    elim (first_negative P.m P.b) [
      | inr n ↦ ((λ i. P.n + i), inl record { nonnegative = n; slacks = λ i l. refl })
      | inl h ↦ elim (leaves_below (auxiliary_of P) (with_ones P) (suc (suc (suc (P.n + P.m)))) P.m) [
        | inl w ↦ (
          (λ i. cond (eqb i w.0) (P.n + P.m) (P.n + i)),
          inr record {
            row = w.0;
            inside = w.1.0;
            negative = first_row_negative P w.0 h.0 w.1.0 h.1 h.2 (first_row P w.0 w.1 h.0 h.1);
            first = first_row P w.0 w.1;
            exchanged = λ i l. refl;
          },
        )
        | inr z ↦ let y : with_ones P h.0 (suc (suc (suc (P.n + P.m)))) ≤ℤ pos 0 = z h.0 h.1 in
            let o : with_ones P h.0 (suc (suc (suc (P.n + P.m)))) ≡ pos 1 = ones_at P h.0 in
            absurd (omega (arith, ints))
      ]
    ]

-- ---- the auxiliary form is never unbounded: its objective is at most 0
pub auxiliary_bounded : (P : Program) (own : ℕ → ℕ) (rows : ℕ → ℕ → ℤ) (col : ℕ) → IsBasis (auxiliary_of P) own rows
    → ¬ (EndsUnbounded (auxiliary_of P) own rows col)
auxiliary_bounded P own rows col b u =
    let v : (s : ℤ) × (z : ℕ → ℤ) × Move (auxiliary_of P) own rows col s z =
    move_exists (auxiliary_of P) own rows col b
    (improving_not_basic (auxiliary_of P) own rows col b u.inside u.improving) in
    let z : ℕ → ℤ = v.1 in
    let r : IsSolution (auxiliary_of P) (pos 0) v.1 × (pos 0 <ℤ v.1 (suc (P.n + P.m))) =
    move_is_ray (auxiliary_of P) own rows col v.0 v.1 b u v.2 in
    let two : dot (suc (suc (P.n + P.m))) (auxiliary_row P P.m) v.1
    ≡ (auxiliary_row P P.m (P.n + P.m) *ℤ v.1 (P.n + P.m))
    +ℤ (auxiliary_row P P.m (suc (P.n + P.m)) *ℤ v.1 (suc (P.n + P.m))) =
    sum_two (suc (suc (P.n + P.m))) (P.n + P.m) (suc (P.n + P.m)) (λ k. auxiliary_row P P.m k *ℤ v.1 k) (omega arith)
    (omega arith) (omega arith)
    (λ j jl d f. ap (λ w. w *ℤ v.1 j) (auxiliary_cost_zero P j d f) ∙ zero-mul (v.1 j)) in
    let met : dot (suc (suc (P.n + P.m))) (auxiliary_row P P.m) v.1
    ≡ pos 0 *ℤ auxiliary_row P P.m (suc (suc (P.n + P.m))) = r.0.solves P.m (omega arith) in
    let n : pos 0 *ℤ auxiliary_row P P.m (suc (suc (P.n + P.m))) ≡ pos 0 =
    zero-mul (auxiliary_row P P.m (suc (suc (P.n + P.m)))) in
    let a : auxiliary_row P P.m (P.n + P.m) *ℤ v.1 (P.n + P.m) ≡ v.1 (P.n + P.m) =
    ap (λ w. w *ℤ v.1 (P.n + P.m)) (auxiliary_cost_entry P) ∙ one-mul (v.1 (P.n + P.m)) in
    let o : auxiliary_row P P.m (suc (P.n + P.m)) *ℤ v.1 (suc (P.n + P.m)) ≡ v.1 (suc (P.n + P.m)) =
    ap (λ w. w *ℤ v.1 (suc (P.n + P.m))) (auxiliary_cost_objective P) ∙ one-mul (v.1 (suc (P.n + P.m))) in
    let p : pos 0 <ℤ v.1 (suc (P.n + P.m)) = r.1 in
    let q : pos 0 ≤ℤ v.1 (P.n + P.m) = r.0.nonnegative (P.n + P.m) (omega arith) in
    omega (arith, ints)

-- at its optimum the auxiliary column is positive where it is basic, so it never stays in the basis at value 0
pub never_at_zero : (P : Program) (basis : ℕ → ℕ) (rows : ℕ → ℕ → ℤ) → StandsWith (auxiliary_of P) basis rows
    → HasAuxiliary P basis → IsNonnegative (suc (P.n + P.m)) (rows P.m) → EndsInfeasible P rows
never_at_zero P basis rows s h n = record {
  feasible = lex_feasible (auxiliary_of P) rows s.feasible;
  no_improving = n;
  below = auxiliary_positive P (own_of (auxiliary_of P) basis) rows h.0 s.is_basis s.feasible n h.1
      (own_low (auxiliary_of P) basis h.0 h.1 ∙ sym h.2);
}

-- ---- a step or an ending
abbrev pub HasEnded : Program → (ℕ → ℕ) → Type 0
HasEnded P basis = EndsAtOptimum P basis ⊎ (EndsAtRay P basis ⊎ EndsInFirstPhase P basis)

step_or_end : (P : Program) (basis : ℕ → ℕ) → Standing P basis
    → ((next : ℕ → ℕ) × Steps P basis next) ⊎ HasEnded P basis
step_or_end P basis s =
    elim s [
      | inl f ↦ elim (turn_or_end (auxiliary_of P) basis f.1.rows f.1.stands) [
        | inl t ↦ inl (t.0, inl (f.0, t.1))
        | inr (inl o) ↦
            inr (inr (inr (
              f.1.rows,
              f.0,
              f.1.stands.is_basis,
              never_at_zero P basis f.1.rows f.1.stands f.0 o.no_improving,
            )))
        | inr (inr u) ↦
            absurd (auxiliary_bounded P (own_of (auxiliary_of P) basis) f.1.rows u.0 f.1.stands.is_basis u.2)
      ]
      | inr f ↦ elim (turn_or_end (system_of P) basis f.1.0 f.1.1) [
        | inl t ↦ inl (t.0, inr (f.0, t.1))
        | inr (inl o) ↦ inr (inl (f.1.0, f.1.1.is_basis, o))
        | inr (inr u) ↦ inr (inr (inl (f.1.0, u.0, f.1.1.is_basis, u.1, u.2)))
      ]
    ]

-- a last basis has ended in one of the three ways
pub last_ends : (P : Program) (basis : ℕ → ℕ) → Last P basis → HasEnded P basis
last_ends P basis l =
    elim (step_or_end P basis (turned_standing P l.reached.0 basis l.reached.1)) [
      | inl t ↦ absurd (l.ends t.0 t.1)
      | inr h ↦ h
    ]

-- rows of the program itself are without the auxiliary column
out : (P : Program) (basis : ℕ → ℕ) (rows : ℕ → ℕ → ℤ) → IsBasis (system_of P) (own_of (system_of P) basis) rows
    → ¬ (HasAuxiliary P basis)
out P basis rows b h =
    let l : own_of (system_of P) basis h.0 < P.n + P.m = b.inside h.0 h.1 in
    let e : own_of (system_of P) basis h.0 ≡ basis h.0 = own_low (system_of P) basis h.0 h.1 in
    let f : P.n + P.m ≡ basis h.0 = h.2 in
    absurd (omega arith)

-- and what is on the path and has ended is the last basis
pub optimum_is_last : (P : Program) (basis : ℕ → ℕ) → Reached P basis → EndsAtOptimum P basis → Last P basis
optimum_is_last P basis r o = record {
  reached = r;
  ends = λ next t. elim t [
    | inl a ↦ out P basis o.0 o.1 a.0
    | inr a ↦ optimal_ends (system_of P) basis next o.0 o.1 o.2.no_improving a.1
  ];
}

pub ray_is_last : (P : Program) (basis : ℕ → ℕ) → Reached P basis → EndsAtRay P basis → Last P basis
ray_is_last P basis r u = record {
  reached = r;
  ends = λ next t. elim t [
    | inl a ↦ out P basis u.0 u.2 a.0
    | inr a ↦ unbounded_ends (system_of P) basis next u.0 u.1 u.2 u.3 u.4.no_limit a.1
  ];
}

pub first_phase_is_last : (P : Program) (basis : ℕ → ℕ) → Reached P basis → EndsInFirstPhase P basis → Last P basis
first_phase_is_last P basis r f = record {
  reached = r;
  ends = λ next t. elim t [
    | inl a ↦ optimal_ends (auxiliary_of P) basis next f.0 f.2 f.3.no_improving a.1
    | inr a ↦ a.0 f.1
  ];
}

ended_is_last : (P : Program) (basis : ℕ → ℕ) → Reached P basis → HasEnded P basis → Last P basis
ended_is_last P basis r h =
    elim h [
      | inl o ↦ optimum_is_last P basis r o
      | inr (inl u) ↦ ray_is_last P basis r u
      | inr (inr f) ↦ first_phase_is_last P basis r f
    ]

-- ---- the path ends
path_end : (P : Program) (fuel k : ℕ) (basis : ℕ → ℕ) → Turned P k basis
    → suc (P.n + P.m) ^ P.m + (P.n + P.m) ^ P.m ≤ k + fuel → (last : ℕ → ℕ) × Last P last
path_end P zero k basis t l =
    let b : k < suc (P.n + P.m) ^ P.m + (P.n + P.m) ^ P.m = turned_bounded P k basis t in absurd (omega arith)
path_end P (suc fuel) k basis t l =
    elim (step_or_end P basis (turned_standing P k basis t)) [
      | inl s ↦ path_end P fuel (suc k) s.0 (basis, t, s.1) (omega arith)
      | inr h ↦ (basis, ended_is_last P basis (k, t) h)
    ]

pub last_exists : (P : Program) → (last : ℕ → ℕ) × Last P last
last_exists P =
    let s : (basis : ℕ → ℕ) × Turned P zero basis = start_exists P in
    path_end P (suc (P.n + P.m) ^ P.m + (P.n + P.m) ^ P.m) zero s.0 s.1 (omega arith)
