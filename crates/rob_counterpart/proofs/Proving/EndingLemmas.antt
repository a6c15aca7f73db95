-- Each ending of the reformulated program proves its answer.
use Rattle.std.proofs.Common.{◌≡◌, ℕ, suc, ◌+◌, ◌*◌, sym, refl, ap, ◌∙◌, subst, arith}
use Rattle.std.proofs.lemmas.Int.{ints}
use lib.IntN.{ℤ, pos, ◌+ℤ◌, ◌-ℤ◌, ◌*ℤ◌, neg_ℤ}
use lib.Signed.{◌<ℤ◌}
use Rattle.rob_linear.specs.Vectors.{Matrix, Columns, sum_to, dot}
use Rattle.rob_linear.specs.Systems.{right, IsBasis, IsNonnegative, IsSolution, Point, Move, EndsOptimal, EndsUnbounded}
use Rattle.rob_linear.specs.Programs.{Program, Admits, Keeps, system_of, auxiliary_of, ShowsEmpty, IsDual}
use Rattle.rob_algebra.specs.Integer.{ring, mul-zero, zero-mul, mul-neg}
use Rattle.rob_linear.proofs.LinearPrograms.Sums.{sum_zero, sum_one, sum_split}
use Rattle.rob_linear.proofs.Meaning.Endings.{point_is_solution}
use Rattle.rob_linear.proofs.Meaning.Endings.{move_is_ray}
use Rattle.rob_linear.proofs.LinearPrograms.Programs.{value_of, admits_from_solution, keeps_from_solution}
use Rattle.rob_linear.proofs.Meaning.Truths.{optimal_duals, infeasible}
use Rattle.rob_counterpart.proofs.Pairs.Blocks.{sum_pairs, sum_blocks}
use Rattle.rob_counterpart.proofs.Proving.ReadingLemmas.{rows_bound_forms, weights_give_items}
use Rattle.rob_counterpart.specs.RobustProgram.{RobustProgram}
use Rattle.rob_counterpart.specs.Reform.{pairs, multiplier, IsReform}
use Rattle.rob_counterpart.proofs.Proving.WholeCertificates.{ItemsSum, BoundsForms, ShowsOptimal, ShowsInfeasible, ShowsUnbounded}
use Rattle.rob_counterpart.specs.Splitting.{plus, minus}
use Rattle.rob_counterpart.proofs.Proving.ScaledEndings.{plan_of}
use Rattle.rob_counterpart.proofs.Proving.WholeCertificates.{multipliers_of, base_of, vector_of}

-- what is maximised is the sense times tau
pub cost_dot : (d : RobustProgram) (P : Program) (s : ℤ) (x : ℕ → ℤ) → IsReform d P
    → dot P.n P.c x ≡ d.sense *ℤ plan_of s x (suc d.decisions)
cost_dot d P s x re =
    let pair : sum_to (pairs d) (λ k. P.c k *ℤ x k) ≡ d.sense *ℤ (x (plus d.decisions) -ℤ x (minus d.decisions)) =
    sum_pairs (suc d.decisions) (λ k. P.c k *ℤ x k)
    ∙ sum_one (suc d.decisions) d.decisions (λ j. (P.c (plus j) *ℤ x (plus j)) +ℤ (P.c (minus j) *ℤ x (minus j)))
    (omega arith) (λ j jl ne.
    let a : P.c (plus j) *ℤ x (plus j) ≡ pos 0 =
    ap (λ v. v *ℤ x (plus j)) (re.cost_decisions j (omega arith)).0 ∙ zero-mul (x (plus j)) in
    let b : P.c (minus j) *ℤ x (minus j) ≡ pos 0 =
    ap (λ v. v *ℤ x (minus j)) (re.cost_decisions j (omega arith)).1 ∙ zero-mul (x (minus j)) in
    omega (arith, ints))
    ∙ ap (λ v. (v *ℤ x (plus d.decisions)) +ℤ (P.c (minus d.decisions) *ℤ x (minus d.decisions))) re.cost_tau.0
    ∙ ap (λ v. (d.sense *ℤ x (plus d.decisions)) +ℤ (v *ℤ x (minus d.decisions))) re.cost_tau.1
    ∙ simp ring in
    let rest : sum_to (d.forms * d.set_rows) (λ q. P.c (pairs d + q) *ℤ x (pairs d + q)) ≡ pos 0 =
    sum_blocks d.forms d.set_rows (λ q. P.c (pairs d + q) *ℤ x (pairs d + q))
    ∙ sum_zero d.forms (λ i. sum_to d.set_rows (λ r. P.c (multiplier d i r) *ℤ x (multiplier d i r))) (λ i il.
    sum_zero d.set_rows (λ r. P.c (multiplier d i r) *ℤ x (multiplier d i r))
    (λ r rl. ap (λ v. v *ℤ x (multiplier d i r)) (re.cost_multipliers i r il rl)
    ∙ zero-mul (x (multiplier d i r)))) in
    ap (λ v. sum_to v (λ k. P.c k *ℤ x k)) re.width
    ∙ sum_split (pairs d) (d.forms * d.set_rows) (λ k. P.c k *ℤ x k) ∙ omega (arith, ints)

pub covers_of_point : (d : RobustProgram) (P : Program) (s : ℤ) (x : ℕ → ℤ) → IsReform d P → Admits P s x
    → BoundsForms d (plan_of s x) (λ i. multipliers_of d i x)
covers_of_point d P s x re adm = rows_bound_forms d P s x re adm.nonnegative adm.rows

pub covers_of_ray : (d : RobustProgram) (P : Program) (x : ℕ → ℤ) → IsReform d P → Keeps P x
    → BoundsForms d (plan_of (pos 0) x) (λ i. multipliers_of d i x)
covers_of_ray d P x re k = rows_bound_forms d P (pos 0) x re k.nonnegative (λ t tl. rw (zero-mul (P.b t)) (k.rows t tl))

-- dual values: the items of an optimal certificate
pub items_of_duals : (d : RobustProgram) (P : Program) (scale : ℤ) (y : ℕ → ℤ) → IsReform d P → IsDual P scale y
    → ItemsSum d (base_of d y) (vector_of d y) (scale *ℤ d.sense) (neg_ℤ (dot P.m y P.b))
items_of_duals d P scale y re dual =
    weights_give_items d P (λ k. scale *ℤ P.c k) y (scale *ℤ d.sense) re dual.nonnegative dual.columns
    (λ j jl. (
      ap (λ v. scale *ℤ v) (re.cost_decisions j jl).0 ∙ mul-zero scale,
      ap (λ v. scale *ℤ v) (re.cost_decisions j jl).1 ∙ mul-zero scale,
    ))
    (ap (λ v. scale *ℤ v) re.cost_tau.0, ap (λ v. scale *ℤ v) re.cost_tau.1 ∙ mul-neg scale d.sense)
    (λ i r il rl. ap (λ v. scale *ℤ v) (re.cost_multipliers i r il rl) ∙ mul-zero scale)

-- Farkas weights: the items of an infeasible one
pub items_of_weights : (d : RobustProgram) (P : Program) (w : ℕ → ℤ) → IsReform d P → ShowsEmpty P w
    → ShowsInfeasible d (base_of d w) (vector_of d w)
items_of_weights d P w re em = record {
  total = neg_ℤ (dot P.m w P.b);
  items = weights_give_items d P (λ k. pos 0) w (pos 0) re em.nonnegative em.columns (λ j jl. (refl, refl))
      (refl, refl) (λ i r il rl. refl);
  positive = let b : dot P.m w P.b <ℤ pos 0 = em.below in omega (arith, ints);
}

-- ---- the three endings

pub optimal_proves : (d : RobustProgram) (P : Program) (own : Columns) (rows : Matrix) (s : ℤ) (x : ℕ → ℤ)
    → IsReform d P
    → IsBasis (system_of P) own rows → EndsOptimal (system_of P) rows → Point (system_of P) own rows s x
    → ShowsOptimal d (plan_of s x) (λ i. multipliers_of d i x) (rows P.m (P.n + P.m))
    (base_of d (λ t. rows P.m (P.n + t))) (vector_of d (λ t. rows P.m (P.n + t)))
optimal_proves d P own rows s x re b o p =
    let sol : IsSolution (system_of P) s x = point_is_solution (system_of P) own rows s x b o.feasible p in
    let duals : IsDual P (rows P.m (P.n + P.m)) (λ t. rows P.m (P.n + t))
    × (rows P.m (P.n + P.m) *ℤ dot P.n P.c x ≡ s *ℤ dot P.m (λ t. rows P.m (P.n + t)) P.b) =
    optimal_duals P own rows s x b o p in
    record {
      plan_scale = p.scale;
      covers = covers_of_point d P s x re (admits_from_solution P s x p.scale sol);
      items_scale = duals.0.scale;
      total = neg_ℤ (dot P.m (λ t. rows P.m (P.n + t)) P.b);
      items = items_of_duals d P (rows P.m (P.n + P.m)) (λ t. rows P.m (P.n + t)) re duals.0;
      bound =
          let a : dot P.n P.c x ≡ d.sense *ℤ plan_of s x (suc d.decisions) = cost_dot d P s x re in
          mul-neg s (dot P.m (λ t. rows P.m (P.n + t)) P.b)
          ∙ ap neg_ℤ (sym duals.1 ∙ ap (λ v. rows P.m (P.n + P.m) *ℤ v) a);
    }

pub infeasible_proves : (d : RobustProgram) (P : Program) (own : Columns) (rows : Matrix) → IsReform d P
    → IsBasis (auxiliary_of P) own rows → IsNonnegative (auxiliary_of P).columns (rows P.m)
    → rows P.m (right (auxiliary_of P)) <ℤ pos 0
    → ShowsInfeasible d (base_of d (λ t. rows P.m (P.n + t))) (vector_of d (λ t. rows P.m (P.n + t)))
infeasible_proves d P own rows re b n neg =
    items_of_weights d P (λ t. rows P.m (P.n + t)) re (infeasible P own rows b n neg)

pub unbounded_proves : (d : RobustProgram) (P : Program) (own : Columns) (rows : Matrix) (col : ℕ) (s : ℤ)
    (x : ℕ → ℤ) (t : ℤ) (r : ℕ → ℤ)
    → IsReform d P → IsBasis (system_of P) own rows → EndsUnbounded (system_of P) own rows col
    → Point (system_of P) own rows s x
    → Move (system_of P) own rows col t r
    → ShowsUnbounded d (plan_of s x) (λ i. multipliers_of d i x) (plan_of (pos 0) r) (λ i. multipliers_of d i r)
unbounded_proves d P own rows col s x t r re b u p v =
    let sol : IsSolution (system_of P) s x = point_is_solution (system_of P) own rows s x b u.feasible p in
    let ray : IsSolution (system_of P) (pos 0) r × (pos 0 <ℤ r (P.n + P.m)) =
    move_is_ray (system_of P) own rows col t r b u v in
    record {
      plan_scale = p.scale;
      covers = covers_of_point d P s x re (admits_from_solution P s x p.scale sol);
      direction = refl;
      step_holds = covers_of_ray d P r re (keeps_from_solution P r ray.0);
      better = subst (λ v. pos 0 <ℤ v) (value_of P (pos 0) r ray.0.solves ∙ cost_dot d P (pos 0) r re) ray.1;
    }
