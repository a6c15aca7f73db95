-- The endings of a search: an optimal one has the worst point of the set and amounts that bound the form, an unbounded
-- one a ray along which the form grows.
use Rattle.std.proofs.Common.{◌≡◌, ℕ, ◌+◌, ◌<◌, sym, ap, ◌∙◌, subst, arith}
use Rattle.std.proofs.lemmas.Int.{ints}
use lib.IntN.{ℤ, pos, ◌*ℤ◌, neg_ℤ}
use lib.Signed.{◌<ℤ◌, ◌≤ℤ◌}
use Rattle.rob_linear.specs.Vectors.{Matrix, Columns, sum_to, dot}
use Rattle.rob_linear.specs.Systems.{IsSolution}
use Rattle.rob_linear.specs.Programs.{Program, Keeps, system_of, IsDual}
use Rattle.rob_algebra.specs.Integer.{zero-mul, mul-neg}
use Rattle.rob_linear.proofs.Meaning.Endings.{move_is_ray}
use Rattle.rob_linear.proofs.LinearPrograms.Programs.{value_of, keeps_from_solution}
use Rattle.rob_linear.proofs.Meaning.Truths.{optimal_duals}
use Rattle.rob_counterpart.specs.RobustProgram.{RobustProgram, number_at}
use Rattle.rob_counterpart.specs.SetPrograms.{IsSearch}
use Rattle.rob_counterpart.proofs.Sets.SetLemmas.{set_cost, set_column_plus, set_column_minus, set_right, set_ray}
use Rattle.rob_counterpart.specs.Splitting.{plus, minus}
use Rattle.rob_counterpart.proofs.Proving.ScaledEndings.{pair, OptimalPoint, UnboundedMove}
use Rattle.rob_counterpart.specs.Endings.{slack_entries}
use Rattle.rob_counterpart.proofs.Proving.WholeCertificates.{constant_at, value_at, LiesInSet}

-- what the dual values of an optimal search say: their sums of the set rows are
-- the form's numbers, and of the right sides its peak
pub record SearchDuals (d : RobustProgram) (i : ℕ) (z : ℕ → ℤ) (scale : ℤ) (y : ℕ → ℤ) (s : ℤ)
    (p : ℕ → ℤ) : Type 0 where
  pub scale_positive : pos 0 <ℤ scale
  pub nonnegative : (r : ℕ) → r < d.set_rows → pos 0 ≤ℤ y r
  pub columns : (c : ℕ) → c < d.set_columns → sum_to d.set_rows (λ r. y r *ℤ d.left r c) ≡ scale *ℤ number_at d i c z
  pub peak : scale *ℤ dot d.set_columns p (λ c. number_at d i c z) ≡ s *ℤ dot d.set_rows y d.right

module _ (d : RobustProgram) (i : ℕ) (z : ℕ → ℤ) (P : Program) (se : IsSearch d i z P) where
  pub search_duals : (own : Columns) (rows : Matrix) (s : ℤ) (x : ℕ → ℤ) → OptimalPoint P own rows s x
      → SearchDuals d i z (rows P.m (P.n + P.m)) (slack_entries P rows) s (pair x)
  search_duals own rows s x en =
      let y : ℕ → ℤ = slack_entries P rows in
      let duals : IsDual P (rows P.m (P.n + P.m)) (λ q. rows P.m (P.n + q))
      × (rows P.m (P.n + P.m) *ℤ dot P.n P.c x ≡ s *ℤ dot P.m (λ q. rows P.m (P.n + q)) P.b) =
      optimal_duals P own rows s x en.basis en.ends en.point in
      record {
        scale_positive = duals.0.scale;
        nonnegative = λ r rl. duals.0.nonnegative r (subst (λ v. r < v) (sym se.height) rl);
        columns = λ c cl.
            let wd : P.n ≡ d.set_columns + d.set_columns = se.width in
            let low : (rows P.m (P.n + P.m) *ℤ P.c (plus c))
            ≤ℤ sum_to d.set_rows (λ r. rows P.m (P.n + r) *ℤ d.left r c) =
            subst (λ v. (rows P.m (P.n + P.m) *ℤ P.c (plus c)) ≤ℤ v)
            (set_column_plus d P se.over_set (λ r. rows P.m (P.n + r)) c cl)
            (duals.0.columns (plus c) (omega arith)) in
            let high : (rows P.m (P.n + P.m) *ℤ P.c (minus c))
            ≤ℤ neg_ℤ (sum_to d.set_rows (λ r. rows P.m (P.n + r) *ℤ d.left r c)) =
            subst (λ v. (rows P.m (P.n + P.m) *ℤ P.c (minus c)) ≤ℤ v)
            (set_column_minus d P se.over_set (λ r. rows P.m (P.n + r)) c cl)
            (duals.0.columns (minus c) (omega arith)) in
            let lowc : rows P.m (P.n + P.m) *ℤ P.c (plus c) ≡ rows P.m (P.n + P.m) *ℤ number_at d i c z =
            ap (λ v. rows P.m (P.n + P.m) *ℤ v) (se.cost_plus c cl) in
            let highc : rows P.m (P.n + P.m) *ℤ P.c (minus c) ≡ neg_ℤ (rows P.m (P.n + P.m) *ℤ number_at d i c z) =
            ap (λ v. rows P.m (P.n + P.m) *ℤ v) (se.cost_minus c cl)
            ∙ mul-neg (rows P.m (P.n + P.m)) (number_at d i c z) in
            omega (arith, ints);
        peak =
            ap (λ v. rows P.m (P.n + P.m) *ℤ v) (sym (set_cost d P se.over_set (λ c. number_at d i c z) x se.cost))
            ∙ duals.1
            ∙ ap (λ v. s *ℤ v) (set_right d P se.over_set (λ r. rows P.m (P.n + r)));
      }

  -- an unbounded search's move is a ray of the set along which the form grows
  pub search_ray : (own : Columns) (rows : Matrix) (column : ℕ) (s : ℤ) (x : ℕ → ℤ) (t : ℤ) (r : ℕ → ℤ)
      → UnboundedMove P own rows column s x t r → LiesInSet d (pos 0) (pair r)
      × (pos 0 <ℤ value_at d i (pos 0) (pair r) z)
  search_ray own rows column s x t r en =
      let ray : IsSolution (system_of P) (pos 0) r × (pos 0 <ℤ r (P.n + P.m)) =
      move_is_ray (system_of P) own rows column t r en.basis en.ends en.move in
      let k : Keeps P r = keeps_from_solution P r ray.0 in (
        set_ray d P se.over_set r k,
        let g : r (P.n + P.m) ≡ dot d.set_columns (pair r) (λ c. number_at d i c z) =
            value_of P (pos 0) r ray.0.solves ∙ set_cost d P se.over_set (λ c. number_at d i c z) r se.cost in
            let h : pos 0 <ℤ r (P.n + P.m) = ray.1 in
            let f : pos 0 *ℤ constant_at d i z ≡ pos 0 = zero-mul (constant_at d i z) in
            omega (arith, ints),
      )
