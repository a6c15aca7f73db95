-- What the rows of a basis say of the solutions.
use Rattle.std.proofs.Common.{◌≡◌, ◌≢◌, ℕ, zero, suc, ◌<◌, ◌≤◌, sym, ap, ◌∙◌, subst, arith, inl, inr, ◌⊎◌}
use Rattle.std.proofs.lemmas.Int.{ints}
use Rattle.std.proofs.lemmas.Bool.{cases_eq}
use lib.IntN.{ℤ, pos, ◌*ℤ◌}
use lib.Signed.{◌<ℤ◌, ◌≤ℤ◌}
use Rattle.std.specs.Int.RustNames.{unsigned_abs}
use Rattle.std.specs.Int.{◌∣◌}
use Rattle.std.proofs.Math.Nat.{eq-one_of_dvd-one}
use Rattle.rob_linear.specs.Vectors.{sum_to, dot}
use Rattle.rob_linear.specs.Systems.{System, objective, right, IsSpanned, IsPrimitive, LiesAlong, IsBasis, Meets, Solves, IsNonnegative, Feasible, Point, IsTagged}
use Rattle.rob_algebra.specs.Integer.{ring, mul-zero, zero-mul, one-mul}
use Rattle.rob_algebra.specs.IntegerOrder.{mul_cancel_nonneg, mul_nonneg}
use Rattle.rob_linear.proofs.LinearPrograms.Sums.{sum_ext, sum_scale, sum_one, dot_ext, dot_rows}

-- a solution meets each spanned row
pub meets_spanned : (S : System) (r : ℕ → ℤ) (s : ℤ) (z : ℕ → ℤ) → IsSpanned S r → Solves S s z → Meets S r s z
meets_spanned S r s z span sol =
    dot_ext (suc S.columns) r (λ k. sum_to (suc S.m) (λ t. r (S.tag t) *ℤ S.start t k)) z (λ k l. span k (omega arith))
    ∙ dot_rows (suc S.m) (suc S.columns) (λ t. r (S.tag t)) S.start z
    ∙ sum_ext (suc S.m) (λ t. r (S.tag t) *ℤ dot (suc S.columns) (S.start t) z)
    (λ t. s *ℤ (r (S.tag t) *ℤ S.start t (right S))) (λ t l.
    ap (λ v. r (S.tag t) *ℤ v) (sol t (omega arith)) ∙ simp ring)
    ∙ sum_scale (suc S.m) s (λ t. r (S.tag t) *ℤ S.start t (right S))
    ∙ ap (λ v. s *ℤ v) (sym (span (right S) (omega arith)))

-- column k is basic or it is not
pub basic_or_not : (m : ℕ) (own : ℕ → ℕ) (k : ℕ) → ((i : ℕ) × (i < m) × (k ≡ own i)) ⊎ ((i : ℕ) → i < m → k ≢ own i)
basic_or_not zero own k = inr (λ i l. absurd (omega arith))
basic_or_not (suc m) own k =
    elim (basic_or_not m own k) [
      | inl h ↦ inl (h.0, omega arith, h.2)
      | inr n ↦
          elim (cases_eq k (own m)) [
            | inl e ↦ inl (m, omega arith, e)
            | inr d ↦ inr (λ i l. elim (cases_eq i m) [
              | inl e ↦ subst (λ v. k ≢ own v) (sym e) d
              | inr f ↦ n i (omega arith)
            ])
          ]
    ]

pub own_in : (S : System) (own : ℕ → ℕ) → ((i : ℕ) → i < S.m → own i < S.columns) → own S.m ≡ objective S → (i : ℕ)
    → i ≤ S.m → own i < suc S.columns
own_in S own inside last i l =
    elim (cases_eq i S.m) [
      | inl e ↦ let f : own i ≡ S.columns = ap own e ∙ last in omega arith
      | inr d ↦ let f : own i < S.columns = inside i (omega arith) in omega arith
    ]

pub own_below : (S : System) (own : ℕ → ℕ) (rows : ℕ → ℕ → ℤ) → IsBasis S own rows → (i : ℕ)
    → i ≤ S.m → own i < suc S.columns
own_below S own rows b i l = own_in S own b.inside b.last i l

-- the product of a basis's row with a z that is 0 outside the basic columns
pub basic_dot : (S : System) (own : ℕ → ℕ) (r z : ℕ → ℤ) (i : ℕ) → LiesAlong S own i r → own i < suc S.columns
    → ((k : ℕ) → k ≤ objective S → ((j : ℕ) → j ≤ S.m → k ≢ own j) → z k ≡ pos 0)
    → dot (suc S.columns) r z ≡ r (own i) *ℤ z (own i)
basic_dot S own r z i a il rest =
    sum_one (suc S.columns) (own i) (λ k. r k *ℤ z k) il (λ k kl d.
    elim (basic_or_not (suc S.m) own k) [
      | inl h ↦
          let hl : h.0 < suc S.m = h.1 in
          let e : r k ≡ pos 0 = ap r h.2 ∙ a.zeros h.0 (omega arith) (λ c. d (h.2 ∙ ap own c)) in
          ap (λ v. v *ℤ z k) e ∙ zero-mul (z k)
      | inr n ↦ ap (λ v. r k *ℤ v) (rest k (omega arith) (λ j jl. n j (omega arith))) ∙ mul-zero (r k)
    ])

-- the point of a basis meets its rows
pub point_meets : (S : System) (own : ℕ → ℕ) (rows : ℕ → ℕ → ℤ) (s : ℤ) (z : ℕ → ℤ) → IsBasis S own rows
    → Point S own rows s z → (i : ℕ) → i ≤ S.m → Meets S (rows i) s z
point_meets S own rows s z b p i l =
    basic_dot S own (rows i) z i (b.rows_of i l).along (own_below S own rows b i l) p.rest ∙ p.basic i l

-- the point of a feasible basis has no negative entry
pub point_nonnegative : (S : System) (own : ℕ → ℕ) (rows : ℕ → ℕ → ℤ) (s : ℤ) (z : ℕ → ℤ) → IsBasis S own rows
    → Feasible S rows → Point S own rows s z → IsNonnegative S.columns z
point_nonnegative S own rows s z b f p k kl =
    elim (basic_or_not S.m own k) [
      | inl h ↦
          let q : pos 0 ≤ℤ (s *ℤ rows h.0 (right S)) =
          mul_nonneg s (rows h.0 (right S)) (let o : pos 0 <ℤ s = p.scale in omega (arith, ints)) (f h.0 h.1) in
          subst (λ v. pos 0 ≤ℤ z v) (sym h.2)
          (mul_cancel_nonneg (rows h.0 (own h.0)) (z (own h.0)) (b.rows_of h.0 (omega arith)).positive
          (rw (p.basic h.0 (omega arith)) q))
      | inr n ↦
          let e : z k ≡ pos 0 =
          p.rest k (omega arith) (λ j jl. elim (cases_eq j S.m) [
            | inl c ↦ (λ g. let u : own j ≡ S.columns = ap own c ∙ b.last in absurd (omega arith))
            | inr d ↦ n j (omega arith)
          ]) in
          omega (arith, ints)
    ]

-- ---- the starting rows are the rows of their tags

pub tags_in : (S : System) → IsTagged S → (t : ℕ) → t ≤ S.m → S.tag t ≤ right S
tags_in S g t l = let h : S.tag t < suc S.columns = own_in S S.tag g.inside g.last t l in omega arith

pub start_along : (S : System) → IsTagged S → (t : ℕ) → t ≤ S.m → LiesAlong S S.tag t (S.start t)
start_along S g t l = record {
  zeros = λ j jl d. g.zero t j l jl d;
  spanned = λ k kl.
      sym (sum_one (suc S.m) t (λ u. S.start t (S.tag u) *ℤ S.start u k) (omega arith)
      (λ u ul d. ap (λ v. v *ℤ S.start u k) (g.zero t u l (omega arith) d) ∙ zero-mul (S.start u k))
      ∙ ap (λ v. v *ℤ S.start t k) (g.one t l) ∙ one-mul (S.start t k));
}

-- an entry 1 makes a row primitive
pub primitive_by_one : (n k : ℕ) (r : ℕ → ℤ) → k < n → unsigned_abs (r k) ≡ 1 → IsPrimitive n r
primitive_by_one n k r l e d h = eq-one_of_dvd-one (subst (λ v. d ∣ v) e (h k l))

pub start_primitive : (S : System) → IsTagged S → (t : ℕ) → t ≤ S.m → IsPrimitive (suc (right S)) (S.start t)
start_primitive S g t l =
    let i : S.tag t ≤ right S = tags_in S g t l in
    primitive_by_one (suc (right S)) (S.tag t) (S.start t) (omega arith) (ap unsigned_abs (g.one t l))

pub start_is_basis : (S : System) → IsTagged S → IsBasis S S.tag S.start
start_is_basis S g = record {
  inside = g.inside;
  last = g.last;
  rows_of = λ i l. record {
    along = start_along S g i l;
    positive = subst (λ v. pos 0 <ℤ v) (sym (g.one i l)) (omega (arith, ints));
    primitive = start_primitive S g i l;
  };
}
