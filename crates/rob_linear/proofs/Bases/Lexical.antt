-- The lexicographic order, and what a turn does to it.
use Rattle.std.proofs.Common.{◌≡◌, ◌≢◌, ℕ, zero, suc, ◌<◌, ◌≤◌, sym, ap, ◌∙◌, subst, arith, inl, inr, ◌⊎◌}
use Rattle.std.proofs.lemmas.Int.{ints, by_lt_z}
use Rattle.std.proofs.lemmas.Bool.{cases_eq, cases_order}
use lib.IntN.{ℤ, pos, ◌+ℤ◌, ◌-ℤ◌, ◌*ℤ◌, neg_ℤ}
use lib.Signed.{◌<ℤ◌}
use Rattle.rob_algebra.specs.Integer.{ring, mul-zero, zero-mul}
use Rattle.rob_algebra.specs.IntegerOrder.{mul_cancel_zero, mul_cancel_lt, mul-pos_z}
use Rattle.rob_linear.specs.Vectors.{sum_to}
use Rattle.rob_linear.specs.Systems.{System, IsTagged, objective, right, RowOf, IsBasis, IsCombined}
use Rattle.rob_linear.specs.Turns.{IsLexPositive, key, ComesBefore, IsLexFeasible, IsPivot, IsTurn, Rises}
use Rattle.rob_linear.proofs.LinearPrograms.Sums.{sum_zero, dot_combine}
use Rattle.rob_linear.proofs.Bases.Solutions.{own_below, tags_in}
use Rattle.rob_linear.proofs.Meaning.Endings.{own_positive}

pub lex_ext : (n : ℕ) (f g : ℕ → ℤ) → ((k : ℕ) → k < n → f k ≡ g k) → IsLexPositive n f → IsLexPositive n g
lex_ext n f g e h =
    let l : h.0 < n = h.1 in
    (h.0, h.1, (λ j jl. sym (e j (omega arith)) ∙ h.2 j jl), subst (λ v. pos 0 <ℤ v) (e h.0 h.1) h.3)

pub lex_scale : (n : ℕ) (c : ℤ) (f : ℕ → ℤ) → pos 0 <ℤ c → IsLexPositive n f → IsLexPositive n (λ k. c *ℤ f k)
lex_scale n c f cp h = (h.0, h.1, (λ j jl. ap (λ v. c *ℤ v) (h.2 j jl) ∙ mul-zero c), mul-pos_z c (f h.0) cp h.3)

pub lex_unscale : (n : ℕ) (c : ℤ) (f : ℕ → ℤ) → pos 0 <ℤ c → IsLexPositive n (λ k. c *ℤ f k) → IsLexPositive n f
lex_unscale n c f cp h = (
  h.0,
  h.1,
  (λ j jl. mul_cancel_zero c (f j) cp (h.2 j jl)),
  mul_cancel_lt c (pos 0) (f h.0) cp (subst (λ v. v <ℤ (c *ℤ f h.0)) (sym (mul-zero c)) h.3),
)

pub lex_add : (n : ℕ) (f g : ℕ → ℤ) → IsLexPositive n f → IsLexPositive n g → IsLexPositive n (λ k. f k +ℤ g k)
lex_add n f g a b =
    elim (cases_order a.0 b.0) [
      | inl e ↦
          let p : pos 0 <ℤ f a.0 = a.3 in
          let q : pos 0 <ℤ g a.0 = subst (λ v. pos 0 <ℤ g v) (sym e) b.3 in (
            a.0,
            a.1,
            (λ j jl. let u : f j ≡ pos 0 = a.2 j jl in let w : g j ≡ pos 0 = b.2 j (omega arith) in
                omega (arith, ints)),
            omega (arith, ints),
          )
      | inr (inl l) ↦
          let p : pos 0 <ℤ f a.0 = a.3 in
          let q : g a.0 ≡ pos 0 = b.2 a.0 l in (
            a.0,
            a.1,
            (λ j jl. let u : f j ≡ pos 0 = a.2 j jl in let w : g j ≡ pos 0 = b.2 j (omega arith) in
                omega (arith, ints)),
            omega (arith, ints),
          )
      | inr (inr l) ↦
          let p : pos 0 <ℤ g b.0 = b.3 in
          let q : f b.0 ≡ pos 0 = a.2 b.0 l in (
            b.0,
            b.1,
            (λ j jl. let u : g j ≡ pos 0 = b.2 j jl in let w : f j ≡ pos 0 = a.2 j (omega arith) in
                omega (arith, ints)),
            omega (arith, ints),
          )
    ]

-- no vector of zeros
pub lex_not_zero : (n : ℕ) (f : ℕ → ℤ) → ((k : ℕ) → k < n → f k ≡ pos 0) → ¬ (IsLexPositive n f)
lex_not_zero n f z h = let e : f h.0 ≡ pos 0 = z h.0 h.1 in let p : pos 0 <ℤ f h.0 = h.3 in omega (arith, ints)

-- positive, its negative positive, or all zeros
pub lex_cases : (n : ℕ) (f : ℕ → ℤ) → IsLexPositive n f
    ⊎ (IsLexPositive n (λ k. neg_ℤ (f k)) ⊎ ((k : ℕ) → k < n → f k ≡ pos 0))
lex_cases zero f = inr (inr (λ k l. absurd (omega arith)))
lex_cases (suc n) f =
    elim (lex_cases n f) [
      | inl h ↦ let l : h.0 < n = h.1 in inl (h.0, omega arith, h.2, h.3)
      | inr (inl h) ↦ let l : h.0 < n = h.1 in inr (inl (h.0, omega arith, h.2, h.3))
      | inr (inr z) ↦
          by_lt_z (pos 0) (f n) (λ p. inl (n, omega arith, z, p)) (λ p.
          by_lt_z (f n) (pos 0)
          (λ q. inr (inl (
            n,
            omega arith,
            (λ j jl. let e : f j ≡ pos 0 = z j jl in omega (arith, ints)),
            omega (arith, ints),
          ))) (λ q.
          inr (inr (λ k kl. elim (cases_eq k n) [
            | inl e ↦ let u : f k ≡ f n = ap f e in omega (arith, ints)
            | inr d ↦ z k (omega arith)
          ]))))
    ]

-- ---- a turn

-- two rows of a basis are no multiples of one another, on their keys alone
pub not_proportional : (S : System) (own : ℕ → ℕ) (rows : ℕ → ℕ → ℤ) (i e : ℕ) (p q : ℤ)
    → ((t : ℕ) → t ≤ S.m → S.tag t ≤ right S) → S.tag S.m ≡ objective S → IsBasis S own rows → i < S.m → e < S.m → i ≢ e
    → pos 0 <ℤ p → ¬ ((k : ℕ) → k < suc S.m → (p *ℤ key S (rows i) k) -ℤ (q *ℤ key S (rows e) k) ≡ pos 0)
not_proportional S own rows i e p q tags tm b il el d pp z =
    let ri : RowOf S own i (rows i) = b.rows_of i (omega arith) in
    let re : RowOf S own e (rows e) = b.rows_of e (omega arith) in
    -- the difference is 0 in each tag
    let at_tag : (t : ℕ) → t < suc S.m → (p *ℤ rows i (S.tag t)) -ℤ (q *ℤ rows e (S.tag t)) ≡ pos 0 =
    (λ t tl. elim (cases_eq t S.m) [
      | inl c ↦
          let oi : rows i (S.tag t) ≡ pos 0 =
          ap (rows i) (ap S.tag c ∙ tm ∙ sym b.last) ∙ ri.zeros S.m (omega arith) (omega arith) in
          let oe : rows e (S.tag t) ≡ pos 0 =
          ap (rows e) (ap S.tag c ∙ tm ∙ sym b.last) ∙ re.zeros S.m (omega arith) (omega arith) in
          let u : p *ℤ rows i (S.tag t) ≡ pos 0 = ap (λ v. p *ℤ v) oi ∙ mul-zero p in
          let w : q *ℤ rows e (S.tag t) ≡ pos 0 = ap (λ v. q *ℤ v) oe ∙ mul-zero q in
          omega (arith, ints)
      | inr c ↦ z (suc t) (omega arith)
    ]) in
    let ob : own i < suc S.columns = own_below S own rows b i (omega arith) in
    let k : ℕ = own i in
    let diff : (p *ℤ rows i (own i)) -ℤ (q *ℤ rows e (own i)) ≡ pos 0 =
    ap (λ v. (p *ℤ v) -ℤ (q *ℤ rows e (own i))) (ri.spanned (own i) (omega arith))
    ∙ ap (λ v. (p *ℤ sum_to (suc S.m) (λ t. rows i (S.tag t) *ℤ S.start t (own i))) -ℤ (q *ℤ v))
    (re.spanned (own i) (omega arith))
    ∙ sym (dot_combine (suc S.m) p q (λ t. rows i (S.tag t)) (λ t. rows e (S.tag t)) (λ t. S.start t (own i)))
    ∙ sum_zero (suc S.m) (λ t. ((p *ℤ rows i (S.tag t)) -ℤ (q *ℤ rows e (S.tag t))) *ℤ S.start t (own i))
    (λ t tl. ap (λ v. v *ℤ S.start t (own i)) (at_tag t tl) ∙ zero-mul (S.start t (own i))) in
    let ez : q *ℤ rows e (own i) ≡ pos 0 = ap (λ v. q *ℤ v) (re.zeros i (omega arith) d) ∙ mul-zero q in
    let pos_i : pos 0 <ℤ (p *ℤ rows i (own i)) = mul-pos_z p (rows i (own i)) pp ri.positive in
    omega (arith, ints)

-- the keys of a combined row
pub key_combined : (S : System) (p q : ℤ) (low top new : ℕ → ℤ) → ((t : ℕ) → t ≤ S.m → S.tag t ≤ right S)
    → (c : IsCombined (suc (right S)) p low q top new) → (k : ℕ) → k < suc S.m
    → c.divisor *ℤ key S new k ≡ (p *ℤ key S low k) -ℤ (q *ℤ key S top k)
key_combined S p q low top new tags c zero l = c.entries (right S) (omega arith)
key_combined S p q low top new tags c (suc k) l =
    let g : S.tag k ≤ right S = tags k (omega arith) in c.entries (S.tag k) (omega arith)

pub key_same : (S : System) (r r' : ℕ → ℤ) → ((t : ℕ) → t ≤ S.m → S.tag t ≤ right S)
    → ((k : ℕ) → k ≤ right S → r' k ≡ r k) → (k : ℕ) → k < suc S.m → key S r k ≡ key S r' k
key_same S r r' tags h zero l = sym (h (right S) (omega arith))
key_same S r r' tags h (suc k) l = sym (h (S.tag k) (tags k (omega arith)))

-- the lexicographic order of a feasible dictionary is kept
pub turn_keeps_order : (S : System) (own own' : ℕ → ℕ) (rows rows' : ℕ → ℕ → ℤ) (e col : ℕ)
    → ((t : ℕ) → t ≤ S.m → S.tag t ≤ right S) → S.tag S.m ≡ objective S → IsBasis S own rows → IsLexFeasible S rows
    → IsTurn S own own' rows rows' e col → IsLexFeasible S rows'
turn_keeps_order S own own' rows rows' e col tags tm b f t i il =
    let v : IsPivot S own own' rows rows' e col = t.pivot in
    let el : e < S.m = v.row_in in
    let n : ℕ = suc S.m in
    elim (cases_eq i e) [
      | inl g ↦ subst (λ (w : ℕ). IsLexPositive (suc S.m) (key S (rows' w))) (sym g)
          (lex_ext (suc S.m) (key S (rows e)) (key S (rows' e)) (key_same S (rows e) (rows' e) tags v.row_at) (f e el))
      | inr d ↦
          let c : IsCombined (suc (right S)) (rows e col) (rows i) (rows i col) (rows e) (rows' i) =
          v.row_other i (omega arith) d in
          let done : IsLexPositive (suc S.m) (λ k. (rows e col *ℤ key S (rows i) k) -ℤ (rows i col *ℤ key S (rows e) k))
          → IsLexPositive (suc S.m) (key S (rows' i)) =
          (λ h. lex_unscale (suc S.m) c.divisor (key S (rows' i)) c.positive
          (lex_ext (suc S.m) (λ k. (rows e col *ℤ key S (rows i) k) -ℤ (rows i col *ℤ key S (rows e) k))
          (λ k. c.divisor *ℤ key S (rows' i) k)
          (λ k kl. sym (key_combined S (rows e col) (rows i col) (rows i) (rows e) (rows' i) tags c k kl)) h)) in
          by_lt_z (pos 0) (rows i col) (λ p.
          done (elim (lex_cases (suc S.m) (λ k. (rows e col *ℤ key S (rows i) k) -ℤ (rows i col *ℤ key S (rows e) k))) [
            | inl h ↦ h
            | inr (inl h) ↦
                absurd (t.leaves.first i il p
                (lex_ext (suc S.m) (λ k. neg_ℤ ((rows e col *ℤ key S (rows i) k) -ℤ (rows i col *ℤ key S (rows e) k)))
                (λ k. (rows i col *ℤ key S (rows e) k) -ℤ (rows e col *ℤ key S (rows i) k))
                (λ k kl. omega (arith, ints)) h))
            | inr (inr h) ↦
                absurd (not_proportional S own rows i e (rows e col) (rows i col) tags tm b il el d v.entry h)
          ]))
          (λ p.
          let low : IsLexPositive (suc S.m) (λ k. rows e col *ℤ key S (rows i) k) =
          lex_scale (suc S.m) (rows e col) (key S (rows i)) v.entry (f i il) in
          by_lt_z (rows i col) (pos 0) (λ q.
          let top : IsLexPositive (suc S.m) (λ k. neg_ℤ (rows i col) *ℤ key S (rows e) k) =
          lex_scale (suc S.m) (neg_ℤ (rows i col)) (key S (rows e)) (omega (arith, ints)) (f e el) in
          done (lex_ext (suc S.m) (λ k. (rows e col *ℤ key S (rows i) k) +ℤ (neg_ℤ (rows i col) *ℤ key S (rows e) k))
          (λ k. (rows e col *ℤ key S (rows i) k) -ℤ (rows i col *ℤ key S (rows e) k)) (λ k kl. simp ring)
          (lex_add (suc S.m) (λ k. rows e col *ℤ key S (rows i) k)
          (λ k. neg_ℤ (rows i col) *ℤ key S (rows e) k) low top)))
          (λ q.
          let z : rows i col ≡ pos 0 = omega (arith, ints) in
          done (lex_ext (suc S.m) (λ k. rows e col *ℤ key S (rows i) k)
          (λ k. (rows e col *ℤ key S (rows i) k) -ℤ (rows i col *ℤ key S (rows e) k)) (λ k kl.
          let w : rows i col *ℤ key S (rows e) k ≡ pos 0 =
          ap (λ u. u *ℤ key S (rows e) k) z ∙ zero-mul (key S (rows e) k) in omega (arith, ints)) low)))
    ]

-- ---- the objective's row moves in one direction

pub turn_rises : (S : System) (own own' : ℕ → ℕ) (rows rows' : ℕ → ℕ → ℤ) (e col : ℕ) → IsTagged S → IsBasis S own rows
    → IsLexFeasible S rows → IsTurn S own own' rows rows' e col → Rises S (rows S.m) (rows' S.m)
turn_rises S own own' rows rows' e col g b f t =
    let v : IsPivot S own own' rows rows' e col = t.pivot in
    let el : e < S.m = v.row_in in
    let imp : rows S.m col <ℤ pos 0 = t.enters.improving in
    let c : IsCombined (suc (right S)) (rows e col) (rows S.m) (rows S.m col) (rows e) (rows' S.m) =
    v.row_other S.m (omega arith) (omega arith) in
    let o : pos 0 <ℤ rows S.m (objective S) = own_positive S own rows b in
    let ez : rows e (objective S) ≡ pos 0 =
    subst (λ w. rows e w ≡ pos 0) b.last ((b.rows_of e (omega arith)).zeros S.m (omega arith) (omega arith)) in
    let oo : c.divisor *ℤ rows' S.m (objective S) ≡ rows e col *ℤ rows S.m (objective S) =
    let w : rows S.m col *ℤ rows e (objective S) ≡ pos 0 = ap (λ u. rows S.m col *ℤ u) ez ∙ mul-zero (rows S.m col) in
    let w' : c.divisor *ℤ rows' S.m (objective S)
    ≡ (rows e col *ℤ rows S.m (objective S)) -ℤ (rows S.m col *ℤ rows e (objective S)) =
    c.entries (objective S) (omega arith) in
    omega (arith, ints) in
    lex_unscale (suc S.m) c.divisor
    (λ k. (rows S.m (objective S) *ℤ key S (rows' S.m) k) -ℤ (rows' S.m (objective S) *ℤ key S (rows S.m) k))
    c.positive
    (lex_ext (suc S.m) (λ k. (neg_ℤ (rows S.m col) *ℤ rows S.m (objective S)) *ℤ key S (rows e) k)
    (λ k. c.divisor
    *ℤ ((rows S.m (objective S) *ℤ key S (rows' S.m) k) -ℤ (rows' S.m (objective S) *ℤ key S (rows S.m) k)))
    (λ k kl.
    let kc : c.divisor *ℤ key S (rows' S.m) k ≡ (rows e col *ℤ key S (rows S.m) k)
    -ℤ (rows S.m col *ℤ key S (rows e) k) =
    key_combined S (rows e col) (rows S.m col) (rows S.m) (rows e) (rows' S.m) (tags_in S g) c k kl in
    let x : c.divisor
    *ℤ ((rows S.m (objective S) *ℤ key S (rows' S.m) k) -ℤ (rows' S.m (objective S) *ℤ key S (rows S.m) k))
    ≡ (rows S.m (objective S) *ℤ (c.divisor *ℤ key S (rows' S.m) k))
    -ℤ ((c.divisor *ℤ rows' S.m (objective S)) *ℤ key S (rows S.m) k) = simp ring in
    let y : (rows S.m (objective S) *ℤ ((rows e col *ℤ key S (rows S.m) k) -ℤ (rows S.m col *ℤ key S (rows e) k)))
    -ℤ ((rows e col *ℤ rows S.m (objective S)) *ℤ key S (rows S.m) k)
    ≡ (neg_ℤ (rows S.m col) *ℤ rows S.m (objective S)) *ℤ key S (rows e) k =
    let u : (rows S.m (objective S) *ℤ ((rows e col *ℤ key S (rows S.m) k) -ℤ (rows S.m col *ℤ key S (rows e) k)))
    ≡ (rows e col *ℤ (rows S.m (objective S) *ℤ key S (rows S.m) k))
    +ℤ ((neg_ℤ (rows S.m col) *ℤ rows S.m (objective S)) *ℤ key S (rows e) k) = simp ring in
    let w : (rows e col *ℤ rows S.m (objective S)) *ℤ key S (rows S.m) k
    ≡ rows e col *ℤ (rows S.m (objective S) *ℤ key S (rows S.m) k) = simp ring in
    omega (arith, ints) in
    sym (x ∙ ap (λ w. (rows S.m (objective S) *ℤ w) -ℤ ((c.divisor *ℤ rows' S.m (objective S)) *ℤ key S (rows S.m) k))
    kc
    ∙ ap (λ w. (rows S.m (objective S) *ℤ ((rows e col *ℤ key S (rows S.m) k) -ℤ (rows S.m col *ℤ key S (rows e) k)))
    -ℤ (w *ℤ key S (rows S.m) k)) oo ∙ y))
    (lex_scale (suc S.m) (neg_ℤ (rows S.m col) *ℤ rows S.m (objective S)) (key S (rows e))
    (mul-pos_z (neg_ℤ (rows S.m col)) (rows S.m (objective S)) (omega (arith, ints)) o) (f e el)))

-- what comes before the second of two comes before the third, for positive divisors
pub before_trans : (S : System) (a b c : ℕ → ℤ) (p q r : ℤ) → pos 0 <ℤ p → pos 0 <ℤ q → pos 0 <ℤ r
    → ComesBefore S a p b q → ComesBefore S b q c r → ComesBefore S a p c r
before_trans S a b c p q r pp qp rp h k =
    lex_unscale (suc S.m) q (λ j. (p *ℤ key S c j) -ℤ (r *ℤ key S a j)) qp
    (lex_ext (suc S.m)
    (λ j. (p *ℤ ((q *ℤ key S c j) -ℤ (r *ℤ key S b j))) +ℤ (r *ℤ ((p *ℤ key S b j) -ℤ (q *ℤ key S a j))))
    (λ j. q *ℤ ((p *ℤ key S c j) -ℤ (r *ℤ key S a j)))
    (λ j jl.
    let x : p *ℤ ((q *ℤ key S c j) -ℤ (r *ℤ key S b j)) ≡ (q *ℤ (p *ℤ key S c j)) -ℤ (p *ℤ (r *ℤ key S b j)) =
    simp ring in
    let y : r *ℤ ((p *ℤ key S b j) -ℤ (q *ℤ key S a j)) ≡ (p *ℤ (r *ℤ key S b j)) -ℤ (q *ℤ (r *ℤ key S a j)) =
    simp ring in
    let w : q *ℤ ((p *ℤ key S c j) -ℤ (r *ℤ key S a j)) ≡ (q *ℤ (p *ℤ key S c j)) -ℤ (q *ℤ (r *ℤ key S a j)) =
    simp ring in
    omega (arith, ints))
    (lex_add (suc S.m) (λ j. p *ℤ ((q *ℤ key S c j) -ℤ (r *ℤ key S b j)))
    (λ j. r *ℤ ((p *ℤ key S b j) -ℤ (q *ℤ key S a j)))
    (lex_scale (suc S.m) p (λ j. (q *ℤ key S c j) -ℤ (r *ℤ key S b j)) pp k)
    (lex_scale (suc S.m) r (λ j. (p *ℤ key S b j) -ℤ (q *ℤ key S a j)) rp h)))

pub rises_trans : (S : System) (a b c : ℕ → ℤ) → pos 0 <ℤ a (objective S) → pos 0 <ℤ b (objective S)
    → pos 0 <ℤ c (objective S) → Rises S a b → Rises S b c → Rises S a c
rises_trans S a b c = before_trans S a b c (a (objective S)) (b (objective S)) (c (objective S))
