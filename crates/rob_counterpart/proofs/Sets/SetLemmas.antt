-- Programs over the set: what their rows say, when they show that the set is empty, and the point of a feasible basis.
use Rattle.std.proofs.Common.{◌≡◌, ℕ, ◌+◌, ◌/◌, ◌<◌, sym, refl, ap, ◌∙◌, subst, arith}
use Rattle.std.proofs.lemmas.Int.{ints}
use lib.IntN.{ℤ, pos, ◌+ℤ◌, ◌*ℤ◌, neg_ℤ}
use lib.Signed.{◌<ℤ◌, ◌≤ℤ◌}
use Rattle.rob_linear.specs.Vectors.{Matrix, Columns, sum_to, dot}
use Rattle.rob_linear.specs.Systems.{IsBasis, IsSolution, Feasible, Point}
use Rattle.rob_linear.specs.Programs.{Program, Admits, Keeps, system_of, ShowsEmpty}
use Rattle.rob_algebra.specs.Integer.{ring, zero-mul, mul-neg}
use Rattle.rob_linear.proofs.LinearPrograms.Sums.{sum_ext, sum_neg}
use Rattle.rob_linear.proofs.Meaning.Endings.{point_is_solution}
use Rattle.rob_linear.proofs.LinearPrograms.Programs.{admits_from_solution}
use Rattle.rob_linear.proofs.Meaning.Truths.{infeasible}
use Rattle.rob_counterpart.specs.RobustProgram.{RobustProgram, number_at}
use Rattle.rob_counterpart.specs.SetPrograms.{IsOverSet, HasCost, IsSearch, over_set, search_of}
use Rattle.rob_counterpart.proofs.Positions.ReformPlaces.{signed_even, signed_odd, half_even, half_odd}
use Rattle.rob_counterpart.proofs.Pairs.Blocks.{sum_pairs}
use Rattle.rob_counterpart.specs.Splitting.{plus, minus}
use Rattle.rob_counterpart.proofs.Proving.ScaledEndings.{pair}
use Rattle.rob_counterpart.specs.Endings.{slack_entries, InfeasibleEnding}
use Rattle.rob_counterpart.proofs.Proving.WholeCertificates.{ShowsSetEmpty, LiesInSet}

module _ (d : RobustProgram) (P : Program) (se : IsOverSet d P) where
  -- a row at x is the set row at the point that x is
  pub set_row : (x : ℕ → ℤ) (r : ℕ) → r < d.set_rows → dot P.n (P.a r) x ≡ dot d.set_columns (pair x) (d.left r)
  set_row x r rl =
      ap (λ v. sum_to v (λ k. P.a r k *ℤ x k)) se.width ∙ sum_pairs d.set_columns (λ k. P.a r k *ℤ x k)
      ∙ sum_ext d.set_columns (λ c. (P.a r (plus c) *ℤ x (plus c)) +ℤ (P.a r (minus c) *ℤ x (minus c)))
      (λ c. pair x c *ℤ d.left r c) (λ c cl.
      let e : (d.left r c *ℤ x (plus c)) +ℤ (neg_ℤ (d.left r c) *ℤ x (minus c)) ≡ pair x c *ℤ d.left r c = simp ring in
      ap (λ v. (v *ℤ x (plus c)) +ℤ (P.a r (minus c) *ℤ x (minus c))) (se.at_plus r c rl cl)
      ∙ ap (λ v. (d.left r c *ℤ x (plus c)) +ℤ (v *ℤ x (minus c))) (se.at_minus r c rl cl) ∙ e)

  pub set_cost : (f x : ℕ → ℤ) → HasCost d f P → dot P.n P.c x ≡ dot d.set_columns (pair x) f
  set_cost f x co =
      ap (λ v. sum_to v (λ k. P.c k *ℤ x k)) se.width ∙ sum_pairs d.set_columns (λ k. P.c k *ℤ x k)
      ∙ sum_ext d.set_columns (λ c. (P.c (plus c) *ℤ x (plus c)) +ℤ (P.c (minus c) *ℤ x (minus c)))
      (λ c. pair x c *ℤ f c) (λ c cl.
      let e : (f c *ℤ x (plus c)) +ℤ (neg_ℤ (f c) *ℤ x (minus c)) ≡ pair x c *ℤ f c = simp ring in
      ap (λ v. (v *ℤ x (plus c)) +ℤ (P.c (minus c) *ℤ x (minus c))) (co.cost_plus c cl)
      ∙ ap (λ v. (f c *ℤ x (plus c)) +ℤ (v *ℤ x (minus c))) (co.cost_minus c cl) ∙ e)

  -- the rows, each as often as w says, in the first column of a pair
  pub set_column_plus : (w : ℕ → ℤ) (c : ℕ) → c < d.set_columns
      → sum_to P.m (λ r. w r *ℤ P.a r (plus c)) ≡ sum_to d.set_rows (λ r. w r *ℤ d.left r c)
  set_column_plus w c cl =
      ap (λ v. sum_to v (λ r. w r *ℤ P.a r (plus c))) se.height
      ∙ sum_ext d.set_rows (λ r. w r *ℤ P.a r (plus c)) (λ r. w r *ℤ d.left r c)
      (λ r rl. ap (λ v. w r *ℤ v) (se.at_plus r c rl cl))

  -- and in the second
  pub set_column_minus : (w : ℕ → ℤ) (c : ℕ) → c < d.set_columns
      → sum_to P.m (λ r. w r *ℤ P.a r (minus c)) ≡ neg_ℤ (sum_to d.set_rows (λ r. w r *ℤ d.left r c))
  set_column_minus w c cl =
      ap (λ v. sum_to v (λ r. w r *ℤ P.a r (minus c))) se.height
      ∙ sum_ext d.set_rows (λ r. w r *ℤ P.a r (minus c)) (λ r. neg_ℤ (w r *ℤ d.left r c))
      (λ r rl. ap (λ v. w r *ℤ v) (se.at_minus r c rl cl) ∙ mul-neg (w r) (d.left r c))
      ∙ sum_neg d.set_rows (λ r. w r *ℤ d.left r c)

  pub set_right : (w : ℕ → ℤ) → dot P.m w P.b ≡ dot d.set_rows w d.right
  set_right w =
      ap (λ v. sum_to v (λ r. w r *ℤ P.b r)) se.height
      ∙ sum_ext d.set_rows (λ r. w r *ℤ P.b r) (λ r. w r *ℤ d.right r) (λ r rl. ap (λ v. w r *ℤ v) (se.at_right r rl))

  -- an admitted point is a point of the set
  pub set_point : (s : ℤ) (x : ℕ → ℤ) → Admits P s x → LiesInSet d s (pair x)
  set_point s x adm = record {
    base_nonnegative = let h : pos 0 <ℤ s = adm.scale in omega (arith, ints);
    rows = λ r rl.
        subst (λ v. v ≤ℤ (s *ℤ d.right r)) (set_row x r rl)
        (subst (λ v. dot P.n (P.a r) x ≤ℤ (s *ℤ v)) (se.at_right r rl)
        (adm.rows r (subst (λ v. r < v) (sym se.height) rl)));
  }

  -- so is the point of a feasible basis
  pub feasible_point : (own : Columns) (rows : Matrix) (s : ℤ) (x : ℕ → ℤ) → IsBasis (system_of P) own rows
      → Feasible (system_of P) rows → Point (system_of P) own rows s x → LiesInSet d s (pair x)
  feasible_point own rows s x b f p =
      let sol : IsSolution (system_of P) s x = point_is_solution (system_of P) own rows s x b f p in
      set_point s x (admits_from_solution P s x p.scale sol)

  -- a direction that keeps all rows is a ray of the set
  pub set_ray : (x : ℕ → ℤ) → Keeps P x → LiesInSet d (pos 0) (pair x)
  set_ray x k = record {
    base_nonnegative = omega (arith, ints);
    rows = λ r rl.
        let a : dot P.n (P.a r) x ≤ℤ pos 0 = k.rows r (subst (λ v. r < v) (sym se.height) rl) in
        let e : dot P.n (P.a r) x ≡ dot d.set_columns (pair x) (d.left r) = set_row x r rl in
        let f : pos 0 *ℤ d.right r ≡ pos 0 = zero-mul (d.right r) in
        omega (arith, ints);
  }

  -- Farkas weights show the set to be empty
  weights_empty : (w : ℕ → ℤ) → ShowsEmpty P w → ShowsSetEmpty d w
  weights_empty w em = record {
    nonnegative = λ r rl. em.nonnegative r (subst (λ v. r < v) (sym se.height) rl);
    columns = λ c cl.
        let wd : P.n ≡ d.set_columns + d.set_columns = se.width in
        let a : pos 0 ≤ℤ sum_to d.set_rows (λ r. w r *ℤ d.left r c) =
        subst (λ v. pos 0 ≤ℤ v) (set_column_plus w c cl) (em.columns (plus c) (omega arith)) in
        let b : pos 0 ≤ℤ neg_ℤ (sum_to d.set_rows (λ r. w r *ℤ d.left r c)) =
        subst (λ v. pos 0 ≤ℤ v) (set_column_minus w c cl) (em.columns (minus c) (omega arith)) in
        omega (arith, ints);
    below = subst (λ v. v <ℤ pos 0) (set_right w) em.below;
  }

  pub set_empty : (own : Columns) (rows : Matrix) → InfeasibleEnding P own rows → ShowsSetEmpty d (slack_entries P rows)
  set_empty own rows en =
      weights_empty (slack_entries P rows) (infeasible P own rows en.basis en.ends.no_improving en.ends.below)

-- ---- the functions give these programs

pub over_set_is : (d : RobustProgram) (f : ℕ → ℤ) → IsOverSet d (over_set d f)
over_set_is d f = record {
  height = refl;
  width = refl;
  at_plus = λ r c rl cl. signed_even c (d.left r (plus c / 2)) ∙ ap (d.left r) (half_even c);
  at_minus = λ r c rl cl. signed_odd c (d.left r (minus c / 2)) ∙ ap (λ v. neg_ℤ (d.left r v)) (half_odd c);
  at_right = λ r rl. refl;
}

pub cost_is : (d : RobustProgram) (f : ℕ → ℤ) → HasCost d f (over_set d f)
cost_is d f = record {
  cost_plus = λ c cl. signed_even c (f (plus c / 2)) ∙ ap f (half_even c);
  cost_minus = λ c cl. signed_odd c (f (minus c / 2)) ∙ ap (λ v. neg_ℤ (f v)) (half_odd c);
}

pub search_is : (d : RobustProgram) (i : ℕ) (z : ℕ → ℤ) → IsSearch d i z (search_of d i z)
search_is d i z =
    record { over_set = over_set_is d (λ c. number_at d i c z); cost = cost_is d (λ c. number_at d i c z) }
