-- The rows of a basis say no less than the starting rows, because there are as many of them.
use Rattle.std.proofs.Common.{◌≡◌, ◌≢◌, ℕ, zero, suc, ◌<◌, ◌≤◌, sym, ap, ◌∙◌, subst, arith, inl, inr, ◌⊎◌, cond, eqb}
use Rattle.std.proofs.lemmas.Int.{ints, by_lt_z}
use Rattle.std.proofs.lemmas.Bool.{cases_eq}
use Rattle.std.proofs.lemmas.Bool.Decides.{nat_tests}
use lib.IntN.{ℤ, pos, ◌+ℤ◌, ◌-ℤ◌, ◌*ℤ◌, neg_ℤ}
use lib.Signed.{◌<ℤ◌}
use Rattle.rob_linear.specs.Vectors.{sum_to, dot}
use Rattle.rob_linear.specs.Systems.{System, right, IsSpanned, RowOf, IsBasis, Meets, Solves}
use Rattle.rob_algebra.specs.Integer.{ring, mul-zero, zero-mul, mul-one, *ℤ_comm, mul-neg, neg-mul}
use Rattle.rob_algebra.specs.IntegerOrder.{mul_cancel_zero}
use Rattle.rob_linear.proofs.LinearPrograms.Sums.{sum_ext, sum_zero, sum_one, sum_add, sum_scale, sum_neg, sum_swap, dot_combine, dot_scale_right, dot_rows}
use Rattle.rob_linear.proofs.Bases.Solutions.{own_below}

pub cases_zero : (z : ℤ) → (z ≡ pos 0) ⊎ (z ≢ pos 0)
cases_zero z =
    by_lt_z z (pos 0) (λ h. inr (λ e. absurd (omega (arith, ints))))
    (λ h. by_lt_z (pos 0) z (λ g. inr (λ e. absurd (omega (arith, ints)))) (λ g. inl (omega (arith, ints))))

pub cancel_nonzero : (c a : ℤ) → c ≢ pos 0 → c *ℤ a ≡ pos 0 → a ≡ pos 0
cancel_nonzero c a n h =
    by_lt_z (pos 0) c (λ l. mul_cancel_zero c a l h) (λ l.
    let p : pos 0 <ℤ neg_ℤ c =
    by_lt_z (pos 0) (neg_ℤ c) (λ g. g) (λ g. let z : c ≡ pos 0 = omega (arith, ints) in absurd (n z)) in
    mul_cancel_zero (neg_ℤ c) a p (neg-mul c a ∙ ap neg_ℤ h))

-- a number of the first n that is not 0, or all are
pub cases_some : (n : ℕ) (f : ℕ → ℤ) → ((e : ℕ) × (e < n) × (f e ≢ pos 0)) ⊎ ((t : ℕ) → t < n → f t ≡ pos 0)
cases_some zero f = inr (λ t l. absurd (omega arith))
cases_some (suc n) f =
    elim (cases_some n f) [
      | inl h ↦ inl (h.0, (let l : h.0 < n = h.1 in omega arith), h.2)
      | inr h ↦ elim (cases_zero (f n)) [
        | inl z ↦ inr (λ t l. elim (cases_eq t n) [ inl e ↦ ap f e ∙ z | inr d ↦ h t (omega arith) ])
        | inr z ↦ inl (n, omega arith, z)
      ]
    ]

-- the numbers x but for the one at n
abbrev pub put : ℕ → ℤ → (ℕ → ℤ) → ℕ → ℤ
put n last x k = cond (eqb k n) last (x k)

put_last : (n : ℕ) (last : ℤ) (x : ℕ → ℤ) → put n last x n ≡ last
put_last n last x = grind (arith, nat_tests)

put_other : (n : ℕ) (last : ℤ) (x : ℕ → ℤ) (k : ℕ) → k ≢ n → put n last x k ≡ x k
put_other n last x k d = grind (arith, nat_tests)

dot_put : (n : ℕ) (f x : ℕ → ℤ) (last : ℤ) → dot (suc n) f (put n last x) ≡ dot n f x +ℤ (f n *ℤ last)
dot_put n f x last =
    ap (λ v. v +ℤ (f n *ℤ put n last x n))
    (sum_ext n (λ k. f k *ℤ put n last x k) (λ k. f k *ℤ x k)
    (λ k l. ap (λ v. f k *ℤ v) (put_other n last x k (omega arith))))
    ∙ ap (λ v. dot n f x +ℤ (f n *ℤ v)) (put_last n last x)

-- equation t of n others than e
abbrev skip : ℕ → ℕ → ℕ → ℕ
skip e n t = cond (eqb t e) n t

skip_at : (e n : ℕ) → skip e n e ≡ n
skip_at e n = grind (arith, nat_tests)

skip_other : (e n t : ℕ) → t ≢ e → skip e n t ≡ t
skip_other e n t d = grind (arith, nat_tests)

-- a solution that is not 0, with one unknown more than equations
abbrev HasSolution : ℕ → (ℕ → ℕ → ℤ) → Type 0
HasSolution n a = (x : ℕ → ℤ) × (h : ℕ) × (h < suc n) × (x h ≢ pos 0) × ((t : ℕ) → t < n → dot (suc n) (a t) x ≡ pos 0)

-- where the last unknown stands in no equation, it alone
last_alone : (n : ℕ) (a : ℕ → ℕ → ℤ) → ((t : ℕ) → t < suc n → a t (suc n) ≡ pos 0) → HasSolution (suc n) a
last_alone n a z = (
  put (suc n) (pos 1) (λ k. pos 0),
  suc n,
  omega arith,
  (λ e. let f : put (suc n) (pos 1) (λ k. pos 0) (suc n) ≡ pos 1 = put_last (suc n) (pos 1) (λ k. pos 0) in
      absurd (omega (arith, ints))),
  (λ t l.
      let b : dot (suc n) (a t) (λ k. pos 0) ≡ pos 0 =
      sum_zero (suc n) (λ k. a t k *ℤ pos 0) (λ k kl. mul-zero (a t k)) in
      let c : a t (suc n) *ℤ pos 1 ≡ pos 0 = mul-one (a t (suc n)) ∙ z t l in
      dot_put (suc n) (a t) (λ k. pos 0) (pos 1) ∙ omega (arith, ints)),
)

-- n equations without right sides, in one more unknown, have a solution that is not 0
pub more_unknowns : (n : ℕ) (a : ℕ → ℕ → ℤ) → HasSolution n a
more_unknowns zero a =
    ((λ k. pos 1), 0, omega arith, (λ e. absurd (omega (arith, ints))), (λ t l. absurd (omega arith)))
more_unknowns (suc n) a =
    elim (cases_some (suc n) (λ t. a t (suc n))) [
      | inr z ↦ last_alone n a z
      | inl h ↦
          let e : ℕ = h.0 in
          let el : h.0 < suc n = h.1 in
          let ih : (x : ℕ → ℤ) × (g : ℕ) × (g < suc n) × (x g ≢ pos 0)
          × ((t : ℕ) → t < n
          → dot (suc n) (λ k. (a h.0 (suc n) *ℤ a (skip h.0 n t) k) -ℤ (a (skip h.0 n t) (suc n) *ℤ a h.0 k)) x
          ≡ pos 0) =
          more_unknowns n (λ t k. (a h.0 (suc n) *ℤ a (skip h.0 n t) k) -ℤ (a (skip h.0 n t) (suc n) *ℤ a h.0 k)) in
          let gl : ih.1 < suc n = ih.2 in
          -- an equation at the solution
          let at : (t : ℕ)
          → dot (suc (suc n)) (a t) (put (suc n) (neg_ℤ (dot (suc n) (a h.0) ih.0)) (λ k. a h.0 (suc n) *ℤ ih.0 k))
          ≡ (a h.0 (suc n) *ℤ dot (suc n) (a t) ih.0) -ℤ (a t (suc n) *ℤ dot (suc n) (a h.0) ih.0) =
          (λ t.
          dot_put (suc n) (a t) (λ k. a h.0 (suc n) *ℤ ih.0 k) (neg_ℤ (dot (suc n) (a h.0) ih.0))
          ∙ ap (λ v. v +ℤ (a t (suc n) *ℤ neg_ℤ (dot (suc n) (a h.0) ih.0)))
          (dot_scale_right (suc n) (a h.0 (suc n)) (a t) ih.0)
          ∙ ap (λ v. (a h.0 (suc n) *ℤ dot (suc n) (a t) ih.0) +ℤ v)
          (mul-neg (a t (suc n)) (dot (suc n) (a h.0) ih.0))) in
          let other : (t u : ℕ) → u < n → skip h.0 n u ≡ t
          → (a h.0 (suc n) *ℤ dot (suc n) (a t) ih.0) -ℤ (a t (suc n) *ℤ dot (suc n) (a h.0) ih.0) ≡ pos 0 =
          (λ t u ul q.
          subst (λ v. (a h.0 (suc n) *ℤ dot (suc n) (a v) ih.0) -ℤ (a v (suc n) *ℤ dot (suc n) (a h.0) ih.0) ≡ pos 0) q
          (sym (dot_combine (suc n) (a h.0 (suc n)) (a (skip h.0 n u) (suc n)) (a (skip h.0 n u)) (a h.0) ih.0)
          ∙ ih.4 u ul)) in (
            put (suc n) (neg_ℤ (dot (suc n) (a h.0) ih.0)) (λ k. a h.0 (suc n) *ℤ ih.0 k),
            ih.1,
            omega arith,
            (λ z. ih.3 (cancel_nonzero (a h.0 (suc n)) (ih.0 ih.1) h.2
                (sym (put_other (suc n) (neg_ℤ (dot (suc n) (a h.0) ih.0)) (λ k. a h.0 (suc n) *ℤ ih.0 k)
                ih.1 (omega arith)) ∙ z))),
            (λ t l. at t ∙ elim (cases_eq t h.0) [
              | inl c ↦ subst (λ v. (a h.0 (suc n) *ℤ dot (suc n) (a v) ih.0)
                  -ℤ (a v (suc n) *ℤ dot (suc n) (a h.0) ih.0) ≡ pos 0) (sym c) (omega (arith, ints))
              | inr c ↦ elim (cases_eq t n) [
                | inl q ↦ other t h.0 (omega arith) (skip_at h.0 n ∙ sym q)
                | inr q ↦ other t t (omega arith) (skip_other h.0 n t c)
              ]
            ]),
          )
    ]

-- what z misses of starting row t
abbrev missing : System → ℤ → (ℕ → ℤ) → ℕ → ℤ
missing S s z t = dot (suc S.columns) (S.start t) z -ℤ (s *ℤ S.start t (right S))

missing_sum : (S : System) (r : ℕ → ℤ) (s : ℤ) (z : ℕ → ℤ) → IsSpanned S r → Meets S r s z
    → sum_to (suc S.m) (λ t. r (S.tag t) *ℤ missing S s z t) ≡ pos 0
missing_sum S r s z span met =
    let a : dot (suc S.columns) r z ≡ sum_to (suc S.m) (λ t. r (S.tag t) *ℤ dot (suc S.columns) (S.start t) z) =
    sum_ext (suc S.columns) (λ k. r k *ℤ z k) (λ k. sum_to (suc S.m) (λ t. r (S.tag t) *ℤ S.start t k) *ℤ z k)
    (λ k kl. ap (λ v. v *ℤ z k) (span k (omega arith)))
    ∙ dot_rows (suc S.m) (suc S.columns) (λ t. r (S.tag t)) S.start z in
    let b : s *ℤ r (right S) ≡ sum_to (suc S.m) (λ t. s *ℤ (r (S.tag t) *ℤ S.start t (right S))) =
    ap (λ v. s *ℤ v) (span (right S) (omega arith))
    ∙ sym (sum_scale (suc S.m) s (λ t. r (S.tag t) *ℤ S.start t (right S))) in
    let c : sum_to (suc S.m) (λ t. r (S.tag t) *ℤ missing S s z t)
    ≡ sum_to (suc S.m) (λ t. r (S.tag t) *ℤ dot (suc S.columns) (S.start t) z)
    -ℤ sum_to (suc S.m) (λ t. s *ℤ (r (S.tag t) *ℤ S.start t (right S))) =
    sum_ext (suc S.m) (λ t. r (S.tag t) *ℤ missing S s z t)
    (λ t. (r (S.tag t) *ℤ dot (suc S.columns) (S.start t) z) +ℤ neg_ℤ (s *ℤ (r (S.tag t) *ℤ S.start t (right S))))
    (λ t tl. simp ring)
    ∙ sum_add (suc S.m) (λ t. r (S.tag t) *ℤ dot (suc S.columns) (S.start t) z)
    (λ t. neg_ℤ (s *ℤ (r (S.tag t) *ℤ S.start t (right S))))
    ∙ ap (λ v. sum_to (suc S.m) (λ t. r (S.tag t) *ℤ dot (suc S.columns) (S.start t) z) +ℤ v)
    (sum_neg (suc S.m) (λ t. s *ℤ (r (S.tag t) *ℤ S.start t (right S)))) in
    let d : dot (suc S.columns) r z ≡ s *ℤ r (right S) = met in
    omega (arith, ints)

-- the columns of a basis, each taken x times, in the row of position i
columns_sum : (S : System) (own : ℕ → ℕ) (rows : ℕ → ℕ → ℤ) (i : ℕ) (x : ℕ → ℤ) → IsBasis S own rows → i ≤ S.m
    → sum_to (suc S.m) (λ t. rows i (S.tag t) *ℤ sum_to (suc S.m) (λ k. x k *ℤ S.start t (own k)))
    ≡ x i *ℤ rows i (own i)
columns_sum S own rows i x b il =
    sum_ext (suc S.m) (λ t. rows i (S.tag t) *ℤ sum_to (suc S.m) (λ k. x k *ℤ S.start t (own k)))
    (λ t. sum_to (suc S.m) (λ k. x k *ℤ (rows i (S.tag t) *ℤ S.start t (own k)))) (λ t l.
    sym (sum_scale (suc S.m) (rows i (S.tag t)) (λ k. x k *ℤ S.start t (own k)))
    ∙ sum_ext (suc S.m) (λ k. rows i (S.tag t) *ℤ (x k *ℤ S.start t (own k)))
    (λ k. x k *ℤ (rows i (S.tag t) *ℤ S.start t (own k))) (λ k kl. simp ring))
    ∙ sum_swap (suc S.m) (suc S.m) (λ t k. x k *ℤ (rows i (S.tag t) *ℤ S.start t (own k)))
    ∙ sum_ext (suc S.m) (λ k. sum_to (suc S.m) (λ t. x k *ℤ (rows i (S.tag t) *ℤ S.start t (own k))))
    (λ k. x k *ℤ rows i (own k)) (λ k kl.
    let ob : own k < suc S.columns = own_below S own rows b k (omega arith) in
    sum_scale (suc S.m) (x k) (λ t. rows i (S.tag t) *ℤ S.start t (own k))
    ∙ ap (λ v. x k *ℤ v) (sym ((b.rows_of i il).spanned (own k) (omega arith))))
    ∙ sum_one (suc S.m) i (λ k. x k *ℤ rows i (own k)) (omega arith)
    (λ k kl d. ap (λ v. x k *ℤ v) ((b.rows_of i il).zeros k (omega arith) d) ∙ mul-zero (x k))

-- the basic columns and what z misses, as one more unknown, are dependent; by the rows only the last one can take part
pub basis_is_back : (S : System) (own : ℕ → ℕ) (rows : ℕ → ℕ → ℤ) → IsBasis S own rows → (s : ℤ) (z : ℕ → ℤ)
    → ((i : ℕ) → i ≤ S.m → Meets S (rows i) s z) → Solves S s z
basis_is_back S own rows b s z met t tl =
    let w : (x : ℕ → ℤ) × (h : ℕ) × (h < suc (suc S.m)) × (x h ≢ pos 0)
    × ((t : ℕ) → t < suc S.m
    → dot (suc (suc S.m)) (put (suc S.m) (missing S s z t) (λ k. S.start t (own k))) x ≡ pos 0) =
    more_unknowns (suc S.m) (λ t. put (suc S.m) (missing S s z t) (λ k. S.start t (own k))) in
    let hl : w.1 < suc (suc S.m) = w.2 in
    let eq : (t : ℕ) → t < suc S.m
    → sum_to (suc S.m) (λ k. w.0 k *ℤ S.start t (own k)) +ℤ (w.0 (suc S.m) *ℤ missing S s z t) ≡ pos 0 =
    (λ t l.
    sym (dot_put (suc S.m) w.0 (λ k. S.start t (own k)) (missing S s z t))
    ∙ sum_ext (suc (suc S.m)) (λ k. w.0 k *ℤ put (suc S.m) (missing S s z t) (λ k. S.start t (own k)) k)
    (λ k. put (suc S.m) (missing S s z t) (λ k. S.start t (own k)) k *ℤ w.0 k)
    (λ k kl. *ℤ_comm (w.0 k) (put (suc S.m) (missing S s z t) (λ k. S.start t (own k)) k))
    ∙ w.4 t l) in
    let none : (i : ℕ) → i ≤ S.m → w.0 i ≡ pos 0 =
    (λ i il.
    let r : RowOf S own i (rows i) = b.rows_of i il in
    let left : sum_to (suc S.m) (λ t. rows i (S.tag t) *ℤ sum_to (suc S.m) (λ k. w.0 k *ℤ S.start t (own k)))
    ≡ w.0 i *ℤ rows i (own i) = columns_sum S own rows i w.0 b il in
    let last : sum_to (suc S.m) (λ t. rows i (S.tag t) *ℤ (w.0 (suc S.m) *ℤ missing S s z t)) ≡ pos 0 =
    sum_ext (suc S.m) (λ t. rows i (S.tag t) *ℤ (w.0 (suc S.m) *ℤ missing S s z t))
    (λ t. w.0 (suc S.m) *ℤ (rows i (S.tag t) *ℤ missing S s z t)) (λ t l. simp ring)
    ∙ sum_scale (suc S.m) (w.0 (suc S.m)) (λ t. rows i (S.tag t) *ℤ missing S s z t)
    ∙ ap (λ v. w.0 (suc S.m) *ℤ v) (missing_sum S (rows i) s z r.spanned (met i il)) ∙ mul-zero (w.0 (suc S.m)) in
    let all : sum_to (suc S.m)
    (λ t. rows i (S.tag t)
    *ℤ (sum_to (suc S.m) (λ k. w.0 k *ℤ S.start t (own k)) +ℤ (w.0 (suc S.m) *ℤ missing S s z t))) ≡ pos 0 =
    sum_zero (suc S.m)
    (λ t. rows i (S.tag t)
    *ℤ (sum_to (suc S.m) (λ k. w.0 k *ℤ S.start t (own k)) +ℤ (w.0 (suc S.m) *ℤ missing S s z t)))
    (λ t l. ap (λ v. rows i (S.tag t) *ℤ v) (eq t l) ∙ mul-zero (rows i (S.tag t))) in
    let both : sum_to (suc S.m)
    (λ t. rows i (S.tag t)
    *ℤ (sum_to (suc S.m) (λ k. w.0 k *ℤ S.start t (own k)) +ℤ (w.0 (suc S.m) *ℤ missing S s z t)))
    ≡ sum_to (suc S.m) (λ t. rows i (S.tag t) *ℤ sum_to (suc S.m) (λ k. w.0 k *ℤ S.start t (own k)))
    +ℤ sum_to (suc S.m) (λ t. rows i (S.tag t) *ℤ (w.0 (suc S.m) *ℤ missing S s z t)) =
    sum_ext (suc S.m)
    (λ t. rows i (S.tag t)
    *ℤ (sum_to (suc S.m) (λ k. w.0 k *ℤ S.start t (own k)) +ℤ (w.0 (suc S.m) *ℤ missing S s z t)))
    (λ t. (rows i (S.tag t) *ℤ sum_to (suc S.m) (λ k. w.0 k *ℤ S.start t (own k)))
    +ℤ (rows i (S.tag t) *ℤ (w.0 (suc S.m) *ℤ missing S s z t))) (λ t l. simp ring)
    ∙ sum_add (suc S.m) (λ t. rows i (S.tag t) *ℤ sum_to (suc S.m) (λ k. w.0 k *ℤ S.start t (own k)))
    (λ t. rows i (S.tag t) *ℤ (w.0 (suc S.m) *ℤ missing S s z t)) in
    let zi : w.0 i *ℤ rows i (own i) ≡ pos 0 = omega (arith, ints) in
    mul_cancel_zero (rows i (own i)) (w.0 i) r.positive (*ℤ_comm (rows i (own i)) (w.0 i) ∙ zi)) in
    let some : w.0 (suc S.m) ≢ pos 0 = (λ e. elim (cases_eq w.1 (suc S.m)) [
      | inl c ↦ absurd (w.3 (ap w.0 c ∙ e))
      | inr c ↦ absurd (w.3 (none w.1 (omega arith)))
    ]) in
    let zs : sum_to (suc S.m) (λ k. w.0 k *ℤ S.start t (own k)) ≡ pos 0 =
    sum_zero (suc S.m) (λ k. w.0 k *ℤ S.start t (own k))
    (λ k kl. ap (λ v. v *ℤ S.start t (own k)) (none k (omega arith)) ∙ zero-mul (S.start t (own k))) in
    let e : sum_to (suc S.m) (λ k. w.0 k *ℤ S.start t (own k)) +ℤ (w.0 (suc S.m) *ℤ missing S s z t) ≡ pos 0 =
    eq t (omega arith) in
    let f : missing S s z t ≡ pos 0 = cancel_nonzero (w.0 (suc S.m)) (missing S s z t) some (omega (arith, ints)) in
    let g : dot (suc S.columns) (S.start t) z -ℤ (s *ℤ S.start t (right S)) ≡ pos 0 = f in
    omega (arith, ints)
