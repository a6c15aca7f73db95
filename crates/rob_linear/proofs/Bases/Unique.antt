-- The rows of a basis are unique up to a factor.
use Rattle.std.proofs.Common.{◌≡◌, ◌≢◌, ℕ, zero, suc, ◌<◌, ◌≤◌, sym, refl, ap, ◌∙◌, subst, arith, inl, inr, cond, eqb}
use Rattle.std.proofs.lemmas.Int.{ints}
use Rattle.std.proofs.lemmas.Bool.{cases_eq}
use Rattle.std.proofs.lemmas.Bool.Decides.{nat_tests}
use lib.IntN.{ℤ, pos, ◌+ℤ◌, ◌*ℤ◌, neg_ℤ}
use lib.Signed.{◌<ℤ◌}
use Rattle.rob_linear.specs.Systems.{System, right, LiesAlong, IsBasis, Point, Move, Solves, RowOf}
use Rattle.rob_algebra.specs.Integer.{ring, mul-zero, zero-mul, *ℤ_comm}
use Rattle.rob_algebra.specs.IntegerOrder.{mul_cancel, mul-pos_z}
use Rattle.rob_linear.proofs.Bases.Square.{basis_is_back}
use Rattle.rob_linear.proofs.Bases.Solutions.{own_below, basic_dot, meets_spanned, point_meets, basic_or_not}
use Rattle.rob_linear.proofs.Meaning.Endings.{move_meets, move_dot}
use Rattle.rob_linear.proofs.Bases.Exact.{primitive_same}

-- numbers w with p w = s v at each place, for one positive s
pub scaled_to : (n : ℕ) (p v : ℕ → ℤ) → ((i : ℕ) → i < n → pos 0 <ℤ p i) → (s : ℤ) × (w : ℕ → ℤ) × (pos 0 <ℤ s)
    × ((i : ℕ) → i < n → p i *ℤ w i ≡ s *ℤ v i)
scaled_to zero p v h = (pos 1, (λ i. pos 0), omega (arith, ints), (λ i l. absurd (omega arith)))
scaled_to (suc n) p v h =
    let t : (s : ℤ) × (w : ℕ → ℤ) × (pos 0 <ℤ s) × ((i : ℕ) → i < n → p i *ℤ w i ≡ s *ℤ v i) =
    scaled_to n p v (λ i l. h i (omega arith)) in (
      t.0 *ℤ p n,
      (λ i. cond (eqb i n) (t.0 *ℤ v n) (p n *ℤ t.1 i)),
      mul-pos_z t.0 (p n) t.2 (h n (omega arith)),
      (λ i l. elim (cases_eq i n) [
        | inl e ↦
            let a : cond (eqb i n) (t.0 *ℤ v n) (p n *ℤ t.1 i) ≡ t.0 *ℤ v n = grind (arith, nat_tests) in
            let b : p i *ℤ (t.0 *ℤ v n) ≡ p n *ℤ (t.0 *ℤ v n) = ap (λ u. p u *ℤ (t.0 *ℤ v n)) e in
            let c : p n *ℤ (t.0 *ℤ v n) ≡ (t.0 *ℤ p n) *ℤ v n = simp ring in
            let d : (t.0 *ℤ p n) *ℤ v n ≡ (t.0 *ℤ p n) *ℤ v i = ap (λ u. (t.0 *ℤ p n) *ℤ v u) (sym e) in
            ap (λ u. p i *ℤ u) a ∙ b ∙ c ∙ d
        | inr d ↦
            let a : cond (eqb i n) (t.0 *ℤ v n) (p n *ℤ t.1 i) ≡ p n *ℤ t.1 i = grind (arith, nat_tests) in
            let b : p i *ℤ (p n *ℤ t.1 i) ≡ p n *ℤ (p i *ℤ t.1 i) = simp ring in
            let c : p n *ℤ (t.0 *ℤ v i) ≡ (t.0 *ℤ p n) *ℤ v i = simp ring in
            ap (λ u. p i *ℤ u) a ∙ b ∙ ap (λ u. p n *ℤ u) (t.3 i (omega arith)) ∙ c
      ]),
    )

pub own_apart : (S : System) (own : ℕ → ℕ) (rows : ℕ → ℕ → ℤ) → IsBasis S own rows → (i j : ℕ) → i ≤ S.m
    → j ≤ S.m → own i ≡ own j → i ≡ j
own_apart S own rows b i j il jl e =
    elim (cases_eq i j) [
      | inl h ↦ h
      | inr d ↦
          let z : rows j (own i) ≡ pos 0 = (b.rows_of j jl).zeros i il d in
          let p : pos 0 <ℤ rows j (own j) = (b.rows_of j jl).positive in
          let q : rows j (own i) ≡ rows j (own j) = ap (rows j) e in
          absurd (omega (arith, ints))
    ]

-- a z with given entries in the basic columns and in the column col, and 0 elsewhere
placed : (n : ℕ) (own : ℕ → ℕ) (w : ℕ → ℤ) → ((i j : ℕ) → i < n → j < n → own i ≡ own j → i ≡ j) → (other : ℕ → ℤ)
    → (z : ℕ → ℤ) × ((i : ℕ) → i < n → z (own i) ≡ w i) × ((k : ℕ) → ((i : ℕ) → i < n → k ≢ own i) → z k ≡ other k)
placed zero own w apart other = (other, (λ i l. absurd (omega arith)), (λ k h. refl))
placed (suc n) own w apart other =
    let t : (z : ℕ → ℤ) × ((i : ℕ) → i < n → z (own i) ≡ w i)
    × ((k : ℕ) → ((i : ℕ) → i < n → k ≢ own i) → z k ≡ other k) =
    placed n own w (λ i j il jl. apart i j (omega arith) (omega arith)) other in (
      (λ k. cond (eqb k (own n)) (w n) (t.0 k)),
      (λ i l. elim (cases_eq i n) [
        | inl e ↦ let a : own i ≡ own n = ap own e in let c : w n ≡ w i = ap w (sym e) in
            let d : cond (eqb (own i) (own n)) (w n) (t.0 (own i)) ≡ w n = grind (arith, nat_tests) in d ∙ c
        | inr d ↦
            let a : own i ≢ own n = (λ e. d (apart i n l (omega arith) e)) in
            let c : cond (eqb (own i) (own n)) (w n) (t.0 (own i)) ≡ t.0 (own i) = grind (arith, nat_tests) in
            c ∙ t.1 i (omega arith)
      ]),
      (λ k h.
          let a : k ≢ own n = h n (omega arith) in
          let c : cond (eqb k (own n)) (w n) (t.0 k) ≡ t.0 k = grind (arith, nat_tests) in
          c ∙ t.2 k (λ i il. h i (omega arith))),
    )

-- each basis has a point
pub point_exists : (S : System) (own : ℕ → ℕ) (rows : ℕ → ℕ → ℤ) → IsBasis S own rows → (s : ℤ)
    × (z : ℕ → ℤ) × Point S own rows s z
point_exists S own rows b =
    let t : (s : ℤ) × (w : ℕ → ℤ) × (pos 0 <ℤ s)
    × ((i : ℕ) → i < suc S.m → rows i (own i) *ℤ w i ≡ s *ℤ rows i (right S)) =
    scaled_to (suc S.m) (λ i. rows i (own i)) (λ i. rows i (right S)) (λ i l. (b.rows_of i (omega arith)).positive) in
    let q : (z : ℕ → ℤ) × ((i : ℕ) → i < suc S.m → z (own i) ≡ t.1 i)
    × ((k : ℕ) → ((i : ℕ) → i < suc S.m → k ≢ own i) → z k ≡ pos 0) =
    placed (suc S.m) own t.1 (λ i j il jl. own_apart S own rows b i j (omega arith) (omega arith)) (λ k. pos 0) in (
      t.0,
      q.0,
      record {
        scale = t.2;
        basic = λ i l. ap (λ v. rows i (own i) *ℤ v) (q.1 i (omega arith)) ∙ t.3 i (omega arith);
        rest = λ k kl h. q.2 k (λ i il. h i (omega arith));
      },
    )

-- and a move along each column that is not basic
pub move_exists : (S : System) (own : ℕ → ℕ) (rows : ℕ → ℕ → ℤ) (col : ℕ) → IsBasis S own rows
    → ((j : ℕ) → j ≤ S.m → col ≢ own j) → (s : ℤ) × (z : ℕ → ℤ) × Move S own rows col s z
move_exists S own rows col b out =
    let t : (s : ℤ) × (w : ℕ → ℤ) × (pos 0 <ℤ s)
    × ((i : ℕ) → i < suc S.m → rows i (own i) *ℤ w i ≡ s *ℤ neg_ℤ (rows i col)) =
    scaled_to (suc S.m) (λ i. rows i (own i)) (λ i. neg_ℤ (rows i col)) (λ i l. (b.rows_of i (omega arith)).positive) in
    let q : (z : ℕ → ℤ) × ((i : ℕ) → i < suc S.m → z (own i) ≡ t.1 i)
    × ((k : ℕ) → ((i : ℕ) → i < suc S.m → k ≢ own i) → z k ≡ cond (eqb k col) t.0 (pos 0)) =
    placed (suc S.m) own t.1 (λ i j il jl. own_apart S own rows b i j (omega arith) (omega arith))
    (λ k. cond (eqb k col) t.0 (pos 0)) in (
      t.0,
      q.0,
      record {
        scale = t.2;
        entering = q.2 col (λ i il. out i (omega arith)) ∙ grind (arith, nat_tests);
        basic = λ i l.
            let e : t.0 *ℤ neg_ℤ (rows i col) ≡ neg_ℤ (t.0 *ℤ rows i col) = simp ring in
            ap (λ v. rows i (own i) *ℤ v) (q.1 i (omega arith)) ∙ t.3 i (omega arith) ∙ e;
        rest = λ k kl h d. q.2 k (λ i il. h i (omega arith)) ∙ grind (arith, nat_tests);
      },
    )

-- two numbers x, y in the proportion of p and q, by a common z
proportion : (p q x y s z : ℤ) → pos 0 <ℤ s → p *ℤ z ≡ s *ℤ x → q *ℤ z ≡ s *ℤ y → q *ℤ x ≡ p *ℤ y
proportion p q x y s z sp e f =
    let a : s *ℤ (q *ℤ x) ≡ q *ℤ (s *ℤ x) = simp ring in
    let b : q *ℤ (p *ℤ z) ≡ p *ℤ (q *ℤ z) = simp ring in
    let c : p *ℤ (s *ℤ y) ≡ s *ℤ (p *ℤ y) = simp ring in
    mul_cancel s (q *ℤ x) (p *ℤ y) sp (a ∙ ap (λ v. q *ℤ v) (sym e) ∙ b ∙ ap (λ v. p *ℤ v) f ∙ c)

-- by the point, at the right side
unique_right : (S : System) (own : ℕ → ℕ) (rows : ℕ → ℕ → ℤ) (i : ℕ) (r : ℕ → ℤ) → IsBasis S own rows → i ≤ S.m
    → LiesAlong S own i r → r (own i) *ℤ rows i (right S) ≡ rows i (own i) *ℤ r (right S)
unique_right S own rows i r b il a =
    let x : (s : ℤ) × (z : ℕ → ℤ) × Point S own rows s z = point_exists S own rows b in
    let p : Point S own rows x.0 x.1 = x.2 in
    let sol : Solves S x.0 x.1 = basis_is_back S own rows b x.0 x.1 (point_meets S own rows x.0 x.1 b p) in
    proportion (rows i (own i)) (r (own i)) (rows i (right S)) (r (right S)) x.0 (x.1 (own i)) p.scale (p.basic i il)
    (sym (basic_dot S own r x.1 i a (own_below S own rows b i il) p.rest) ∙ meets_spanned S r x.0 x.1 a.spanned sol)

-- by a move, at a column that is not basic
unique_column : (S : System) (own : ℕ → ℕ) (rows : ℕ → ℕ → ℤ) (i : ℕ) (r : ℕ → ℤ) → IsBasis S own rows → i ≤ S.m
    → LiesAlong S own i r → (k : ℕ) → k < suc S.columns → ((j : ℕ) → j ≤ S.m → k ≢ own j)
    → r (own i) *ℤ rows i k ≡ rows i (own i) *ℤ r k
unique_column S own rows i r b il a k kl out =
    let x : (s : ℤ) × (z : ℕ → ℤ) × Move S own rows k s z = move_exists S own rows k b out in
    let p : Move S own rows k x.0 x.1 = x.2 in
    let sol : Solves S (pos 0) x.1 =
    basis_is_back S own rows b (pos 0) x.1 (move_meets S own rows k x.0 x.1 b p kl out) in
    let e : (r (own i) *ℤ x.1 (own i)) +ℤ (r k *ℤ x.1 k) ≡ pos 0 =
    sym (move_dot S own r k x.1 i a (own_below S own rows b i il) p.rest kl out il)
    ∙ meets_spanned S r (pos 0) x.1 a.spanned sol ∙ zero-mul (r (right S)) in
    let f : r k *ℤ x.1 k ≡ x.0 *ℤ r k = ap (λ v. r k *ℤ v) p.entering ∙ *ℤ_comm (r k) x.0 in
    let g : rows i (own i) *ℤ x.1 (own i) ≡ neg_ℤ (x.0 *ℤ rows i k) = p.basic i il in
    let h : x.0 *ℤ neg_ℤ (rows i k) ≡ neg_ℤ (x.0 *ℤ rows i k) = simp ring in
    let h' : x.0 *ℤ neg_ℤ (r k) ≡ neg_ℤ (x.0 *ℤ r k) = simp ring in
    let w : r (own i) *ℤ neg_ℤ (rows i k) ≡ rows i (own i) *ℤ neg_ℤ (r k) =
    proportion (rows i (own i)) (r (own i)) (neg_ℤ (rows i k)) (neg_ℤ (r k)) x.0 (x.1 (own i)) p.scale (g ∙ sym h)
    (omega (arith, ints)) in
    let u : r (own i) *ℤ neg_ℤ (rows i k) ≡ neg_ℤ (r (own i) *ℤ rows i k) = simp ring in
    let u' : rows i (own i) *ℤ neg_ℤ (r k) ≡ neg_ℤ (rows i (own i) *ℤ r k) = simp ring in
    omega (arith, ints)

-- what lies along the row of a position is a multiple of it
pub row_unique : (S : System) (own : ℕ → ℕ) (rows : ℕ → ℕ → ℤ) (i : ℕ) (r : ℕ → ℤ) → IsBasis S own rows → i ≤ S.m
    → LiesAlong S own i r → (k : ℕ) → k ≤ right S → r (own i) *ℤ rows i k ≡ rows i (own i) *ℤ r k
row_unique S own rows i r b il a k kl =
    elim (cases_eq k (right S)) [
      | inl e ↦ subst (λ v. r (own i) *ℤ rows i v ≡ rows i (own i) *ℤ r v) (sym e) (unique_right S own rows i r b il a)
      | inr d ↦
          elim (basic_or_not (suc S.m) own k) [
            | inl h ↦
                subst (λ v. r (own i) *ℤ rows i v ≡ rows i (own i) *ℤ r v) (sym h.2)
                (elim (cases_eq h.0 i) [
                  | inl e ↦ subst (λ v. r (own i) *ℤ rows i (own v) ≡ rows i (own i) *ℤ r (own v)) (sym e)
                      (*ℤ_comm (r (own i)) (rows i (own i)))
                  | inr f ↦
                      let l : h.0 < suc S.m = h.1 in
                      let x : r (own i) *ℤ rows i (own h.0) ≡ pos 0 =
                      ap (λ v. r (own i) *ℤ v) ((b.rows_of i il).zeros h.0 (omega arith) f)
                      ∙ mul-zero (r (own i)) in
                      let c : rows i (own i) *ℤ r (own h.0) ≡ pos 0 =
                      ap (λ v. rows i (own i) *ℤ v) (a.zeros h.0 (omega arith) f) ∙ mul-zero (rows i (own i)) in
                      x ∙ sym c
                ])
            | inr n ↦ unique_column S own rows i r b il a k (omega arith) (λ j jl. n j (omega arith))
          ]
    ]

pub rows_unique : (S : System) (own : ℕ → ℕ) (rows rows' : ℕ → ℕ → ℤ) → IsBasis S own rows → IsBasis S own rows'
    → (i : ℕ) → i ≤ S.m → (k : ℕ) → k ≤ right S → rows' i (own i) *ℤ rows i k ≡ rows i (own i) *ℤ rows' i k
rows_unique S own rows rows' b b' i il k kl = row_unique S own rows i (rows' i) b il (b'.rows_of i il).along k kl

-- so each row of a basis is one
pub rows_equal : (S : System) (own : ℕ → ℕ) (rows rows' : ℕ → ℕ → ℤ) → IsBasis S own rows → IsBasis S own rows'
    → (i : ℕ) → i ≤ S.m → (k : ℕ) → k ≤ right S → rows i k ≡ rows' i k
rows_equal S own rows rows' b b' i il k kl =
    primitive_same (suc (right S)) (rows' i (own i)) (rows i (own i)) (rows i) (rows' i) (b'.rows_of i il).positive
    (b.rows_of i il).positive (b.rows_of i il).primitive (b'.rows_of i il).primitive
    (λ j jl. rows_unique S own rows rows' b b' i il j (omega arith)) k (omega arith)

-- a position has one row
pub row_equal : (S : System) (own : ℕ → ℕ) (rows : ℕ → ℕ → ℤ) (i : ℕ) (r : ℕ → ℤ) → IsBasis S own rows → i ≤ S.m
    → RowOf S own i r → (k : ℕ) → k ≤ right S → rows i k ≡ r k
row_equal S own rows i r b il h k kl =
    primitive_same (suc (right S)) (r (own i)) (rows i (own i)) (rows i) r h.positive (b.rows_of i il).positive
    (b.rows_of i il).primitive h.primitive
    (λ j jl. row_unique S own rows i r b il h.along j (omega arith)) k (omega arith)
