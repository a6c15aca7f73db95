-- The simplex's three answers are true of the program.
use Rattle.std.proofs.Common.{◌≡◌, ℕ, suc, ◌+◌, ◌<◌, ◌≤◌, sym, ap, ◌∙◌, subst, arith}
use Rattle.std.proofs.lemmas.Int.{ints}
use lib.IntN.{ℤ, pos, negsuc, ◌+ℤ◌, ◌-ℤ◌, ◌*ℤ◌, neg_ℤ}
use lib.Signed.{◌<ℤ◌, ◌≤ℤ◌}
use Rattle.rob_linear.specs.Vectors.{sum_to, dot}
use Rattle.rob_linear.specs.Systems.{right, IsSpanned, IsBasis, IsNonnegative, IsSolution, Point, Move, EndsOptimal, EndsUnbounded}
use Rattle.rob_linear.specs.Programs.{Program, Admits, Keeps, starting_row, system_of, auxiliary_tag, auxiliary_row, auxiliary_of, ShowsEmpty, IsDual, IsBest, HasNoGreatest}
use Rattle.rob_algebra.specs.Integer.{ring, mul-zero, mul-one}
use Rattle.rob_algebra.specs.IntegerOrder.{mul_le_mul, mul_nonneg, mul-pos_z}
use Rattle.rob_linear.proofs.LinearPrograms.Sums.{sum_ext, sum_nonneg, rows_bound, dot_along, dot_mono, dot_scale, dot_scale_right}
use Rattle.rob_linear.proofs.Meaning.Endings.{point_is_solution}
use Rattle.rob_linear.proofs.Meaning.Endings.{point_value, own_positive, optimal_is_best, move_is_ray}
use Rattle.rob_linear.proofs.LinearPrograms.Programs.{value_of, admits_from_solution, keeps_from_solution, lifted, solution_from_admits, lifted_value, row_left, row_right, left_row, left_cost, right_row, right_cost, auxiliary_cost_left, auxiliary_cost_right, auxiliary_left, auxiliary_right, auxiliary_tag-slack}

-- optimal
pub optimal : (P : Program) (own : ℕ → ℕ) (rows : ℕ → ℕ → ℤ) (s : ℤ) (z : ℕ → ℤ) → IsBasis (system_of P) own rows
    → EndsOptimal (system_of P) rows → Point (system_of P) own rows s z → IsBest P s z
optimal P own rows s z b o p =
    let sol : IsSolution (system_of P) s z = point_is_solution (system_of P) own rows s z b o.feasible p in
    record {
      admitted = admits_from_solution P s z p.scale sol;
      best = λ t x h.
          let e : lifted P t x (P.n + P.m) ≡ dot P.n P.c x = lifted_value P t x in
          let f : z (P.n + P.m) ≡ dot P.n P.c z = value_of P s z sol.solves in
          rw (← e, ← f)
          (optimal_is_best (system_of P) own rows s z t (lifted P t x) b o p (solution_from_admits P t x h));
    }

-- its value is that of the dual values, which are row m's slack entries over its objective entry
spanned_left : (P : Program) (r : ℕ → ℤ) (j : ℕ) → IsSpanned (system_of P) r → j < P.n
    → r j ≡ sum_to P.m (λ i. r (P.n + i) *ℤ P.a i j) -ℤ (r (P.n + P.m) *ℤ P.c j)
spanned_left P r j h l =
    let e : r j ≡ sum_to P.m (λ i. r (P.n + i) *ℤ starting_row P i j) +ℤ (r (P.n + P.m) *ℤ starting_row P P.m j) =
    h j (omega arith) in
    let f : sum_to P.m (λ i. r (P.n + i) *ℤ starting_row P i j) ≡ sum_to P.m (λ i. r (P.n + i) *ℤ P.a i j) =
    sum_ext P.m (λ i. r (P.n + i) *ℤ starting_row P i j) (λ i. r (P.n + i) *ℤ P.a i j)
    (λ i il. ap (λ v. r (P.n + i) *ℤ v) (row_left P i j l ∙ left_row P i j il)) in
    let g : r (P.n + P.m) *ℤ starting_row P P.m j ≡ r (P.n + P.m) *ℤ neg_ℤ (P.c j) =
    ap (λ v. r (P.n + P.m) *ℤ v) (row_left P P.m j l ∙ left_cost P j) in
    let k : r (P.n + P.m) *ℤ neg_ℤ (P.c j) ≡ neg_ℤ (r (P.n + P.m) *ℤ P.c j) = simp ring in
    omega (arith, ints)

spanned_right : (P : Program) (r : ℕ → ℤ) → IsSpanned (system_of P) r
    → r (suc (P.n + P.m)) ≡ dot P.m (λ i. r (P.n + i)) P.b
spanned_right P r h =
    let e : r (suc (P.n + P.m)) ≡ sum_to P.m (λ i. r (P.n + i) *ℤ starting_row P i (suc (P.n + P.m)))
    +ℤ (r (P.n + P.m) *ℤ starting_row P P.m (suc (P.n + P.m))) = h (suc (P.n + P.m)) (omega arith) in
    let f : sum_to P.m (λ i. r (P.n + i) *ℤ starting_row P i (suc (P.n + P.m))) ≡ dot P.m (λ i. r (P.n + i)) P.b =
    sum_ext P.m (λ i. r (P.n + i) *ℤ starting_row P i (suc (P.n + P.m))) (λ i. r (P.n + i) *ℤ P.b i)
    (λ i il. ap (λ v. r (P.n + i) *ℤ v) (row_right P i (omega arith) ∙ right_row P i il)) in
    let g : r (P.n + P.m) *ℤ starting_row P P.m (suc (P.n + P.m)) ≡ pos 0 =
    ap (λ v. r (P.n + P.m) *ℤ v) (row_right P P.m (omega arith) ∙ right_cost P) ∙ mul-zero (r (P.n + P.m)) in
    omega (arith, ints)

pub optimal_duals : (P : Program) (own : ℕ → ℕ) (rows : ℕ → ℕ → ℤ) (s : ℤ) (z : ℕ → ℤ) → IsBasis (system_of P) own rows
    → EndsOptimal (system_of P) rows → Point (system_of P) own rows s z
    → IsDual P (rows P.m (P.n + P.m)) (λ i. rows P.m (P.n + i))
    × (rows P.m (P.n + P.m) *ℤ dot P.n P.c z ≡ s *ℤ dot P.m (λ i. rows P.m (P.n + i)) P.b)
optimal_duals P own rows s z b o p = (
  record {
    scale = own_positive (system_of P) own rows b;
    nonnegative = λ i l. o.no_improving (P.n + i) (omega arith);
    columns = λ j l.
        let e : rows P.m j ≡ sum_to P.m (λ i. rows P.m (P.n + i) *ℤ P.a i j) -ℤ (rows P.m (P.n + P.m) *ℤ P.c j) =
        spanned_left P (rows P.m) j (b.rows_of P.m (omega arith)).spanned l in
        let f : pos 0 ≤ℤ rows P.m j = o.no_improving j (omega arith) in
        omega (arith, ints);
  },
  ap (λ v. rows P.m (P.n + P.m) *ℤ v)
      (sym (value_of P s z (point_is_solution (system_of P) own rows s z b o.feasible p).solves))
      ∙ point_value (system_of P) own rows s z b p
      ∙ ap (λ v. s *ℤ v) (spanned_right P (rows P.m) (b.rows_of P.m (omega arith)).spanned),
)

-- weak duality on its own: dual values bound each admitted point's value
pub weak_duality : (P : Program) (d : ℤ) (y : ℕ → ℤ) (t : ℤ) (x : ℕ → ℤ) → IsDual P d y → Admits P t x
    → (d *ℤ dot P.n P.c x) ≤ℤ (t *ℤ dot P.m y P.b)
weak_duality P d y t x dual adm =
    let low : (d *ℤ dot P.n P.c x) ≤ℤ dot P.n (λ j. sum_to P.m (λ i. y i *ℤ P.a i j)) x =
    subst (λ v. v ≤ℤ dot P.n (λ j. sum_to P.m (λ i. y i *ℤ P.a i j)) x) (dot_scale P.n d P.c x)
    (dot_mono P.n (λ j. d *ℤ P.c j) (λ j. sum_to P.m (λ i. y i *ℤ P.a i j)) x dual.columns adm.nonnegative) in
    let high : dot P.n (λ j. sum_to P.m (λ i. y i *ℤ P.a i j)) x ≤ℤ dot P.m y (λ i. t *ℤ P.b i) =
    rows_bound P.m P.n y (λ i. t *ℤ P.b i) P.a x dual.nonnegative adm.rows in
    let e : dot P.m y (λ i. t *ℤ P.b i) ≡ t *ℤ dot P.m y P.b = dot_scale_right P.m t y P.b in
    omega (arith, ints)

-- Farkas weights
pub weights_show_empty : (P : Program) (w : ℕ → ℤ) → ShowsEmpty P w → (s : ℤ) (x : ℕ → ℤ) → ¬ (Admits P s x)
weights_show_empty P w h s x adm =
    let low : pos 0 ≤ℤ dot P.n (λ j. sum_to P.m (λ i. w i *ℤ P.a i j)) x =
    sum_nonneg P.n (λ j. sum_to P.m (λ i. w i *ℤ P.a i j) *ℤ x j)
    (λ j l. mul_nonneg (sum_to P.m (λ i. w i *ℤ P.a i j)) (x j) (h.columns j l) (adm.nonnegative j l)) in
    let high : dot P.n (λ j. sum_to P.m (λ i. w i *ℤ P.a i j)) x ≤ℤ dot P.m w (λ i. s *ℤ P.b i) =
    rows_bound P.m P.n w (λ i. s *ℤ P.b i) P.a x h.nonnegative adm.rows in
    let e : dot P.m w (λ i. s *ℤ P.b i) ≡ s *ℤ dot P.m w P.b = dot_scale_right P.m s w P.b in
    let b : dot P.m w P.b <ℤ pos 0 = h.below in
    let f : pos 0 <ℤ (s *ℤ neg_ℤ (dot P.m w P.b)) =
    mul-pos_z s (neg_ℤ (dot P.m w P.b)) adm.scale (omega (arith, ints)) in
    let g : s *ℤ neg_ℤ (dot P.m w P.b) ≡ neg_ℤ (s *ℤ dot P.m w P.b) = simp ring in
    omega (arith, ints)

pub auxiliary_spanned : (P : Program) (r : ℕ → ℤ) (k : ℕ) (f : ℕ → ℤ) → IsSpanned (auxiliary_of P) r
    → k ≤ right (auxiliary_of P) → ((t : ℕ) → t < P.m → auxiliary_row P t k ≡ f t) → auxiliary_row P P.m k ≡ pos 0
    → r k ≡ sum_to P.m (λ i. r (P.n + i) *ℤ f i)
auxiliary_spanned P r k f h kl e z =
    let all : r k ≡ sum_to P.m (λ t. r (auxiliary_tag P t) *ℤ auxiliary_row P t k)
    +ℤ (r (auxiliary_tag P P.m) *ℤ auxiliary_row P P.m k) = h k kl in
    let a : sum_to P.m (λ t. r (auxiliary_tag P t) *ℤ auxiliary_row P t k) ≡ sum_to P.m (λ i. r (P.n + i) *ℤ f i) =
    sum_ext P.m (λ t. r (auxiliary_tag P t) *ℤ auxiliary_row P t k) (λ i. r (P.n + i) *ℤ f i)
    (λ t l. ap (λ v. r v *ℤ auxiliary_row P t k) (auxiliary_tag-slack P t l)
    ∙ ap (λ v. r (P.n + t) *ℤ v) (e t l)) in
    let b : r (auxiliary_tag P P.m) *ℤ auxiliary_row P P.m k ≡ pos 0 =
    ap (λ v. r (auxiliary_tag P P.m) *ℤ v) z ∙ mul-zero (r (auxiliary_tag P P.m)) in
    omega (arith, ints)

pub infeasible : (P : Program) (own : ℕ → ℕ) (rows : ℕ → ℕ → ℤ) → IsBasis (auxiliary_of P) own rows
    → IsNonnegative (auxiliary_of P).columns (rows P.m) → rows P.m (right (auxiliary_of P)) <ℤ pos 0
    → ShowsEmpty P (λ i. rows P.m (P.n + i))
infeasible P own rows b n neg = record {
  nonnegative = λ i l. n (P.n + i) (omega arith);
  columns = λ j l.
      subst (λ v. pos 0 ≤ℤ v)
      (auxiliary_spanned P (rows P.m) j (λ i. P.a i j) (b.rows_of P.m (omega arith)).spanned (omega arith)
      (λ t tl. auxiliary_left P t j tl l) (auxiliary_cost_left P j l)) (n j (omega arith));
  below = subst (λ v. v <ℤ pos 0)
      (auxiliary_spanned P (rows P.m) (suc (suc (P.n + P.m))) P.b (b.rows_of P.m (omega arith)).spanned (omega arith)
      (λ t tl. auxiliary_right P t tl) (auxiliary_cost_right P)) neg;
}

-- a direction that grows
pub along_admits : (P : Program) (s : ℤ) (z r : ℕ → ℤ) (u : ℤ) → Admits P s z → Keeps P r → pos 0 ≤ℤ u
    → Admits P s (λ j. z j +ℤ (u *ℤ r j))
along_admits P s z r u adm k up = record {
  scale = adm.scale;
  nonnegative = λ j l.
      let a : pos 0 ≤ℤ z j = adm.nonnegative j l in
      let b : pos 0 ≤ℤ (u *ℤ r j) = mul_nonneg u (r j) up (k.nonnegative j l) in
      omega (arith, ints);
  rows = λ i l.
      let a : dot P.n (P.a i) z ≤ℤ (s *ℤ P.b i) = adm.rows i l in
      let b : (u *ℤ dot P.n (P.a i) r) ≤ℤ (u *ℤ pos 0) = mul_le_mul u (dot P.n (P.a i) r) (pos 0) up (k.rows i l) in
      let c : u *ℤ pos 0 ≡ pos 0 = mul-zero u in
      rw (dot_along P.n (P.a i) z r u) (omega (arith, ints));
}

-- a natural number at least z
above : (z : ℤ) → (u : ℤ) × (pos 0 ≤ℤ u) × (z ≤ℤ u)
above (pos n) = (pos n, omega (arith, ints), omega (arith, ints))
above (negsuc n) = (pos 0, omega (arith, ints), omega (arith, ints))

pub grows_without_end : (P : Program) (s : ℤ) (z r : ℕ → ℤ) → Admits P s z → Keeps P r
    → pos 0 <ℤ dot P.n P.c r → HasNoGreatest P
grows_without_end P s z r adm k g v d dp =
    let w : (u : ℤ) × (pos 0 ≤ℤ u) × (((s *ℤ v) -ℤ (d *ℤ dot P.n P.c z)) ≤ℤ u) =
    above ((s *ℤ v) -ℤ (d *ℤ dot P.n P.c z)) in (
      s,
      (λ j. z j +ℤ (w.0 *ℤ r j)),
      along_admits P s z r w.0 adm k w.1,
      let u : ℤ = w.0 in
          let up : pos 0 ≤ℤ u = w.1 in
          let far : ((s *ℤ v) -ℤ (d *ℤ dot P.n P.c z)) ≤ℤ u = w.2 in
          let dg : pos 0 <ℤ (d *ℤ dot P.n P.c r) = mul-pos_z d (dot P.n P.c r) dp g in
          let big : (u *ℤ pos 1) ≤ℤ (u *ℤ (d *ℤ dot P.n P.c r)) =
          mul_le_mul u (pos 1) (d *ℤ dot P.n P.c r) up (omega (arith, ints)) in
          let one : u *ℤ pos 1 ≡ u = mul-one u in
          let e : d *ℤ (dot P.n P.c z +ℤ (u *ℤ dot P.n P.c r)) ≡ (d *ℤ dot P.n P.c z) +ℤ (u *ℤ (d *ℤ dot P.n P.c r)) =
          simp ring in
          rw (dot_along P.n P.c z r u, e) (omega (arith, ints)),
    )

pub unbounded : (P : Program) (own : ℕ → ℕ) (rows : ℕ → ℕ → ℤ) (col : ℕ) (s : ℤ) (z : ℕ → ℤ) (t : ℤ) (r : ℕ → ℤ)
    → IsBasis (system_of P) own rows → EndsUnbounded (system_of P) own rows col → Point (system_of P) own rows s z
    → Move (system_of P) own rows col t r → HasNoGreatest P
unbounded P own rows col s z t r b u p v =
    let sol : IsSolution (system_of P) s z = point_is_solution (system_of P) own rows s z b u.feasible p in
    let ray : IsSolution (system_of P) (pos 0) r × (pos 0 <ℤ r (P.n + P.m)) =
    move_is_ray (system_of P) own rows col t r b u v in
    let e : r (P.n + P.m) ≡ dot P.n P.c r = value_of P (pos 0) r ray.0.solves in
    grows_without_end P s z r (admits_from_solution P s z p.scale sol) (keeps_from_solution P r ray.0) (rw (← e) ray.1)

-- with the point and the ray themselves
pub unbounded_parts : (P : Program) (own : ℕ → ℕ) (rows : ℕ → ℕ → ℤ) (col : ℕ) (s : ℤ) (z : ℕ → ℤ) (t : ℤ) (r : ℕ → ℤ)
    → IsBasis (system_of P) own rows → EndsUnbounded (system_of P) own rows col → Point (system_of P) own rows s z
    → Move (system_of P) own rows col t r → Admits P s z × Keeps P r × HasNoGreatest P
unbounded_parts P own rows col s z t r b u p v = (
  admits_from_solution P s z p.scale (point_is_solution (system_of P) own rows s z b u.feasible p),
  keeps_from_solution P r (move_is_ray (system_of P) own rows col t r b u v).0,
  unbounded P own rows col s z t r b u p v,
)
