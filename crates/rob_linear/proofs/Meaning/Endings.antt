-- The three endings are true.
use Rattle.std.proofs.Common.{◌≡◌, ◌≢◌, ℕ, zero, suc, ◌<◌, ◌≤◌, sym, ap, ◌∙◌, subst, arith, inl, inr}
use Rattle.std.proofs.lemmas.Int.{ints, by_lt_z}
use Rattle.std.proofs.lemmas.Bool.{cases_eq}
use lib.IntN.{ℤ, pos, ◌+ℤ◌, ◌*ℤ◌, neg_ℤ}
use lib.Signed.{◌<ℤ◌, ◌≤ℤ◌}
use Rattle.rob_linear.specs.Vectors.{sum_to, dot}
use Rattle.rob_linear.specs.Systems.{System, objective, right, LiesAlong, IsBasis, Meets, IsNonnegative, IsSolution, Feasible, Point, Move, EndsOptimal, EndsUnbounded}
use Rattle.rob_algebra.specs.Integer.{ring, mul-zero, zero-mul, *ℤ_comm}
use Rattle.rob_algebra.specs.IntegerOrder.{mul_le_mul, mul_cancel_nonneg, mul_nonneg, mul_cancel_le, mul-pos_z}
use Rattle.rob_linear.proofs.LinearPrograms.Sums.{sum_one, sum_nonneg}
use Rattle.rob_linear.proofs.Bases.Square.{basis_is_back}
use Rattle.rob_linear.proofs.Bases.Solutions.{point_meets, point_nonnegative, meets_spanned, basic_or_not, own_below}

-- the point of a feasible basis is a solution without negative entries
pub point_is_solution : (S : System) (own : ℕ → ℕ) (rows : ℕ → ℕ → ℤ) (s : ℤ) (z : ℕ → ℤ) → IsBasis S own rows
    → Feasible S rows → Point S own rows s z → IsSolution S s z
point_is_solution S own rows s z b f p = record {
  solves = basis_is_back S own rows b s z (point_meets S own rows s z b p);
  nonnegative = point_nonnegative S own rows s z b f p;
}

-- the value of a solution, times row m's objective entry, is at most the row's
-- right side where the row has no negative entry
pub value_bound : (S : System) (own : ℕ → ℕ) (rows : ℕ → ℕ → ℤ) (s : ℤ) (z : ℕ → ℤ) → IsBasis S own rows
    → IsNonnegative S.columns (rows S.m) → IsSolution S s z
    → (rows S.m (objective S) *ℤ z (objective S)) ≤ℤ (s *ℤ rows S.m (right S))
value_bound S own rows s z b opt sol =
    let e : dot (suc S.columns) (rows S.m) z ≡ s *ℤ rows S.m (right S) =
    meets_spanned S (rows S.m) s z (b.rows_of S.m (omega arith)).spanned sol.solves in
    let n : pos 0 ≤ℤ dot S.columns (rows S.m) z =
    sum_nonneg S.columns (λ k. rows S.m k *ℤ z k)
    (λ k l. mul_nonneg (rows S.m k) (z k) (opt k l) (sol.nonnegative k l)) in
    omega (arith, ints)

-- the point's value is row m's right side over its objective entry
pub point_value : (S : System) (own : ℕ → ℕ) (rows : ℕ → ℕ → ℤ) (s : ℤ) (z : ℕ → ℤ) → IsBasis S own rows
    → Point S own rows s z → rows S.m (objective S) *ℤ z (objective S) ≡ s *ℤ rows S.m (right S)
point_value S own rows s z b p =
    subst (λ (v : ℕ). rows S.m v *ℤ z v ≡ s *ℤ rows S.m (right S)) b.last (p.basic S.m (omega arith))

pub own_positive : (S : System) (own : ℕ → ℕ) (rows : ℕ → ℕ → ℤ) → IsBasis S own rows → pos 0 <ℤ rows S.m (objective S)
own_positive S own rows b = subst (λ (v : ℕ). pos 0 <ℤ rows S.m v) b.last (b.rows_of S.m (omega arith)).positive

-- no solution's value, z' over s', is greater than the point's, z over s
pub optimal_is_best : (S : System) (own : ℕ → ℕ) (rows : ℕ → ℕ → ℤ) (s : ℤ) (z : ℕ → ℤ) (s' : ℤ) (z' : ℕ → ℤ)
    → IsBasis S own rows → EndsOptimal S rows → Point S own rows s z → IsSolution S s' z'
    → (s *ℤ z' (objective S)) ≤ℤ (s' *ℤ z (objective S))
optimal_is_best S own rows s z s' z' b o p sol =
    let h : (rows S.m (objective S) *ℤ z' (objective S)) ≤ℤ (s' *ℤ rows S.m (right S)) =
    value_bound S own rows s' z' b o.no_improving sol in
    let e : rows S.m (objective S) *ℤ z (objective S) ≡ s *ℤ rows S.m (right S) = point_value S own rows s z b p in
    let q : pos 0 <ℤ s = p.scale in
    let k : (s *ℤ (rows S.m (objective S) *ℤ z' (objective S))) ≤ℤ (s *ℤ (s' *ℤ rows S.m (right S))) =
    mul_le_mul s (rows S.m (objective S) *ℤ z' (objective S)) (s' *ℤ rows S.m (right S)) (omega (arith, ints)) h in
    let l : s *ℤ (rows S.m (objective S) *ℤ z' (objective S)) ≡ rows S.m (objective S) *ℤ (s *ℤ z' (objective S)) =
    simp ring in
    let r : s *ℤ (s' *ℤ rows S.m (right S)) ≡ rows S.m (objective S) *ℤ (s' *ℤ z (objective S)) =
    let u : s *ℤ (s' *ℤ rows S.m (right S)) ≡ s' *ℤ (s *ℤ rows S.m (right S)) = simp ring in
    let w : s' *ℤ (rows S.m (objective S) *ℤ z (objective S)) ≡ rows S.m (objective S) *ℤ (s' *ℤ z (objective S)) =
    simp ring in
    u ∙ ap (λ v. s' *ℤ v) (sym e) ∙ w in
    mul_cancel_le (rows S.m (objective S)) (s *ℤ z' (objective S)) (s' *ℤ z (objective S))
    (own_positive S own rows b) (rw (← l, ← r) k)

-- ---- unbounded

-- two terms alone
pub sum_two : (n k h : ℕ) (f : ℕ → ℤ) → k < n → h < n → k ≢ h → ((j : ℕ) → j < n → j ≢ k → j ≢ h → f j ≡ pos 0)
    → sum_to n f ≡ f k +ℤ f h
sum_two zero k h f kl hl d z = absurd (omega arith)
sum_two (suc n) k h f kl hl d z =
    elim (cases_eq k n) [
      | inl e ↦
          let q : f k ≡ f n = ap f e in
          let r : sum_to n f ≡ f h = sum_one n h f (omega arith) (λ j jl jd. z j (omega arith) (omega arith) jd) in
          omega (arith, ints)
      | inr e ↦
          elim (cases_eq h n) [
            | inl g ↦
                let q : f h ≡ f n = ap f g in
                let r : sum_to n f ≡ f k =
                sum_one n k f (omega arith) (λ j jl jd. z j (omega arith) jd (omega arith)) in
                omega (arith, ints)
            | inr g ↦
                let q : f n ≡ pos 0 = z n (omega arith) (omega arith) (omega arith) in
                let r : sum_to n f ≡ f k +ℤ f h =
                sum_two n k h f (omega arith) (omega arith) d (λ j jl. z j (omega arith)) in
                omega (arith, ints)
          ]
    ]

-- the product of a basis's row with a z that is 0 outside the basic columns and one more column
pub move_dot : (S : System) (own : ℕ → ℕ) (r : ℕ → ℤ) (col : ℕ) (z : ℕ → ℤ) (i : ℕ) → LiesAlong S own i r
    → own i < suc S.columns → ((k : ℕ) → k ≤ objective S → ((j : ℕ) → j ≤ S.m → k ≢ own j) → k ≢ col → z k ≡ pos 0)
    → col < suc S.columns → ((j : ℕ) → j ≤ S.m → col ≢ own j) → i ≤ S.m
    → dot (suc S.columns) r z ≡ (r (own i) *ℤ z (own i)) +ℤ (r col *ℤ z col)
move_dot S own r col z i a il rest cl out l =
    sum_two (suc S.columns) (own i) col (λ k. r k *ℤ z k) il cl (λ e. out i l (sym e)) (λ k kl d dc.
    elim (basic_or_not (suc S.m) own k) [
      | inl h ↦
          let hl : h.0 < suc S.m = h.1 in
          let e : r k ≡ pos 0 = ap r h.2 ∙ a.zeros h.0 (omega arith) (λ c. d (h.2 ∙ ap own c)) in
          ap (λ v. v *ℤ z k) e ∙ zero-mul (z k)
      | inr n ↦ ap (λ v. r k *ℤ v) (rest k (omega arith) (λ j jl. n j (omega arith)) dc) ∙ mul-zero (r k)
    ])

pub move_meets : (S : System) (own : ℕ → ℕ) (rows : ℕ → ℕ → ℤ) (col : ℕ) (s : ℤ) (z : ℕ → ℤ) → IsBasis S own rows
    → Move S own rows col s z → col < suc S.columns → ((j : ℕ) → j ≤ S.m → col ≢ own j) → (i : ℕ) → i ≤ S.m
    → Meets S (rows i) (pos 0) z
move_meets S own rows col s z b p cl out i l =
    let two : dot (suc S.columns) (rows i) z ≡ (rows i (own i) *ℤ z (own i)) +ℤ (rows i col *ℤ z col) =
    move_dot S own (rows i) col z i (b.rows_of i l).along (own_below S own rows b i l) p.rest cl out l in
    let e : rows i (own i) *ℤ z (own i) ≡ neg_ℤ (s *ℤ rows i col) = p.basic i l in
    let f : rows i col *ℤ z col ≡ s *ℤ rows i col = ap (λ v. rows i col *ℤ v) p.entering ∙ *ℤ_comm (rows i col) s in
    let g : pos 0 *ℤ rows i (right S) ≡ pos 0 = zero-mul (rows i (right S)) in
    omega (arith, ints)

-- an improving column is not basic
pub improving_not_basic : (S : System) (own : ℕ → ℕ) (rows : ℕ → ℕ → ℤ) (col : ℕ) → IsBasis S own rows → col < S.columns
    → rows S.m col <ℤ pos 0 → (j : ℕ) → j ≤ S.m → col ≢ own j
improving_not_basic S own rows col b cl imp j jl e =
    elim (cases_eq j S.m) [
      | inl c ↦ let u : own j ≡ S.columns = ap own c ∙ b.last in absurd (omega arith)
      | inr d ↦ let u : rows S.m col ≡ pos 0 = ap (rows S.m) e ∙ (b.rows_of S.m (omega arith)).zeros j jl d in
          absurd (omega (arith, ints))
    ]

move_nonnegative : (S : System) (own : ℕ → ℕ) (rows : ℕ → ℕ → ℤ) (col : ℕ) (s : ℤ) (z : ℕ → ℤ) → IsBasis S own rows
    → EndsUnbounded S own rows col → Move S own rows col s z → IsNonnegative S.columns z
move_nonnegative S own rows col s z b u p k kl =
    let sp : pos 0 <ℤ s = p.scale in
    elim (basic_or_not S.m own k) [
      | inl h ↦
          let q : pos 0 ≤ℤ (s *ℤ neg_ℤ (rows h.0 col)) =
          mul_nonneg s (neg_ℤ (rows h.0 col)) (omega (arith, ints))
          (let o : rows h.0 col ≤ℤ pos 0 = u.no_limit h.0 h.1 in omega (arith, ints)) in
          let e : s *ℤ neg_ℤ (rows h.0 col) ≡ neg_ℤ (s *ℤ rows h.0 col) = simp ring in
          subst (λ v. pos 0 ≤ℤ z v) (sym h.2)
          (mul_cancel_nonneg (rows h.0 (own h.0)) (z (own h.0)) (b.rows_of h.0 (omega arith)).positive
          (rw (p.basic h.0 (omega arith), ← e) q))
      | inr n ↦
          elim (cases_eq k col) [
            | inl c ↦ let e : z k ≡ s = ap z c ∙ p.entering in omega (arith, ints)
            | inr d ↦
                let e : z k ≡ pos 0 =
                p.rest k (omega arith) (λ j jl. elim (cases_eq j S.m) [
                  | inl c ↦ (λ g. let w : own j ≡ S.columns = ap own c ∙ b.last in absurd (omega arith))
                  | inr f ↦ n j (omega arith)
                ]) d in
                omega (arith, ints)
          ]
    ]

-- the move of an unbounded ending is a ray of positive value
pub move_is_ray : (S : System) (own : ℕ → ℕ) (rows : ℕ → ℕ → ℤ) (col : ℕ) (s : ℤ) (z : ℕ → ℤ) → IsBasis S own rows
    → EndsUnbounded S own rows col → Move S own rows col s z → IsSolution S (pos 0) z × (pos 0 <ℤ z (objective S))
move_is_ray S own rows col s z b u p = (
  record {
    solves = basis_is_back S own rows b (pos 0) z
        (move_meets S own rows col s z b p (let ci : col < S.columns = u.inside in omega arith)
        (improving_not_basic S own rows col b u.inside u.improving));
    nonnegative = move_nonnegative S own rows col s z b u p;
  },
  let e : rows S.m (objective S) *ℤ z (objective S) ≡ neg_ℤ (s *ℤ rows S.m col) =
      subst (λ (v : ℕ). rows S.m v *ℤ z v ≡ neg_ℤ (s *ℤ rows S.m col)) b.last (p.basic S.m (omega arith)) in
      let imp : rows S.m col <ℤ pos 0 = u.improving in
      let q : pos 0 <ℤ (s *ℤ neg_ℤ (rows S.m col)) = mul-pos_z s (neg_ℤ (rows S.m col)) p.scale (omega (arith, ints)) in
      let f : s *ℤ neg_ℤ (rows S.m col) ≡ neg_ℤ (s *ℤ rows S.m col) = simp ring in
      by_lt_z (pos 0) (z (objective S)) (λ h. h) (λ h.
      let o : pos 0 <ℤ rows S.m (objective S) = own_positive S own rows b in
      let w : (rows S.m (objective S) *ℤ z (objective S)) ≤ℤ (rows S.m (objective S) *ℤ pos 0) =
      mul_le_mul (rows S.m (objective S)) (z (objective S)) (pos 0) (omega (arith, ints)) h in
      let v : rows S.m (objective S) *ℤ pos 0 ≡ pos 0 = mul-zero (rows S.m (objective S)) in
      absurd (omega (arith, ints))),
)
