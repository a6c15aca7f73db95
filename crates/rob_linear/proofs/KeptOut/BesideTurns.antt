-- With the auxiliary column kept out, the same column enters and the same position leaves.
use Rattle.std.proofs.Common.{◌≡◌, ◌≢◌, ℕ, zero, suc, ◌+◌, ◌<◌, ◌≤◌, sym, refl, ap, ◌∙◌, subst, arith, inl, inr}
use Rattle.std.proofs.lemmas.Int.{ints}
use Rattle.std.proofs.lemmas.Bool.{cases_eq}
use lib.IntN.{ℤ, pos, ◌+ℤ◌, ◌-ℤ◌, ◌*ℤ◌, neg_ℤ}
use lib.Signed.{◌<ℤ◌, ◌≤ℤ◌}
use Rattle.rob_algebra.specs.Integer.{ring, mul-zero}
use Rattle.rob_algebra.specs.IntegerOrder.{mul-pos_z}
use Rattle.rob_linear.specs.Systems.{System, IsTagged, right, IsNonnegative}
use Rattle.rob_linear.specs.Programs.{Program, auxiliary_of}
use Rattle.rob_linear.specs.Turns.{IsLexPositive, key, ComesBefore, Enters, Leaves}
use Rattle.rob_linear.specs.Paths.{Reached}
use Rattle.rob_linear.specs.Multiples.{IsParallel, IsClearedBy}
use Rattle.rob_linear.specs.Beside.{StandsBeside, EntersBeside, IsBesidePivot, IsLexNegative, IsLeast, HasNoLeast, beside_objective}
use Rattle.rob_linear.proofs.Bases.Solutions.{tags_in}
use Rattle.rob_linear.proofs.Bases.Lexical.{lex_ext, lex_scale, lex_unscale, lex_add, lex_not_zero}
use Rattle.rob_linear.proofs.Bases.Choices.{before_not_self}
use Rattle.rob_linear.proofs.BasisPaths.Starts.{auxiliary_tagged}
use Rattle.rob_linear.proofs.BasisPaths.TwoPhases.{InFirst, turned_standing}
use Rattle.rob_linear.proofs.RowForms.Multiples.{parallel_sym, parallel_positive, parallel_negative, lex_parallel, before_parallel, key_parallel}
use Rattle.rob_linear.proofs.KeptOut.Beside.{back_row, back_rows, back_at, back_other, back_last, objective_other, objective_column}

-- ---- the order of keys
pub key_linear : (S : System) (a b : ℤ) (r s : ℕ → ℤ) (k : ℕ)
    → key S (λ j. (a *ℤ r j) +ℤ (b *ℤ s j)) k ≡ (a *ℤ key S r k) +ℤ (b *ℤ key S s k)
key_linear S a b r s zero = refl
key_linear S a b r s (suc k) = refl

pub key_neg : (S : System) (r : ℕ → ℤ) (k : ℕ) → key S (λ j. neg_ℤ (r j)) k ≡ neg_ℤ (key S r k)
key_neg S r zero = refl
key_neg S r (suc k) = refl

pub not_both : (n : ℕ) (f : ℕ → ℤ) → IsLexPositive n f → ¬ (IsLexNegative n f)
not_both n f a b =
    lex_not_zero n (λ k. f k +ℤ neg_ℤ (f k)) (λ k l. omega (arith, ints)) (lex_add n f (λ k. neg_ℤ (f k)) a b)

pub negative_parallel : (S : System) (r s : ℕ → ℤ) → IsTagged S → IsParallel (suc (right S)) r s
    → IsLexNegative (suc S.m) (key S r) → IsLexNegative (suc S.m) (key S s)
negative_parallel S r s t h c =
    lex_unscale (suc S.m) h.q (λ k. neg_ℤ (key S s k)) h.q_positive
    (lex_ext (suc S.m) (λ k. h.p *ℤ neg_ℤ (key S r k)) (λ k. h.q *ℤ neg_ℤ (key S s k)) (λ k kl.
    let e : h.p *ℤ key S r k ≡ h.q *ℤ key S s k = key_parallel S r s (tags_in S t) h k kl in
    let x : h.p *ℤ neg_ℤ (key S r k) ≡ neg_ℤ (h.p *ℤ key S r k) = simp ring in
    let y : h.q *ℤ neg_ℤ (key S s k) ≡ neg_ℤ (h.q *ℤ key S s k) = simp ring in
    x ∙ ap neg_ℤ e ∙ sym y)
    (lex_scale (suc S.m) h.p (λ k. neg_ℤ (key S r k)) h.p_positive c))

-- what comes before something negative, over positive numbers, is negative
pub before_negative : (S : System) (a b : ℕ → ℤ) (p q : ℤ) → pos 0 <ℤ p → pos 0 <ℤ q → IsLexNegative (suc S.m) (key S b)
    → ComesBefore S a p b q → IsLexNegative (suc S.m) (key S a)
before_negative S a b p q pp qp n c =
    lex_unscale (suc S.m) q (λ k. neg_ℤ (key S a k)) qp
    (lex_ext (suc S.m) (λ k. ((p *ℤ key S b k) -ℤ (q *ℤ key S a k)) +ℤ (p *ℤ neg_ℤ (key S b k)))
    (λ k. q *ℤ neg_ℤ (key S a k)) (λ k kl.
    let x : p *ℤ neg_ℤ (key S b k) ≡ neg_ℤ (p *ℤ key S b k) = simp ring in
    let y : q *ℤ neg_ℤ (key S a k) ≡ neg_ℤ (q *ℤ key S a k) = simp ring in
    omega (arith, ints))
    (lex_add (suc S.m) (λ k. (p *ℤ key S b k) -ℤ (q *ℤ key S a k)) (λ k. p *ℤ neg_ℤ (key S b k)) c
    (lex_scale (suc S.m) p (λ k. neg_ℤ (key S b k)) pp n)))

-- ---- identities: w of the rows of the path's basis, u of those after the pivot, t of the pivot's row
identity : (e l a c x y : ℤ) → neg_ℤ e *ℤ ((neg_ℤ l *ℤ x) +ℤ (a *ℤ y))
    ≡ (((neg_ℤ l *ℤ c) +ℤ (a *ℤ e)) *ℤ neg_ℤ y) +ℤ (neg_ℤ l *ℤ ((neg_ℤ e *ℤ x) +ℤ (c *ℤ y)))
identity e l a c x y = simp ring (omega (arith, ints))

auxiliary_entry_is : (e l a c : ℤ) → (neg_ℤ l *ℤ c) +ℤ (a *ℤ e) ≡ neg_ℤ ((neg_ℤ e *ℤ a) +ℤ (c *ℤ l))
auxiliary_entry_is e l a c = simp ring (omega (arith, ints))

cross : (t l v w y x x' z z' : ℤ) → t *ℤ x ≡ (v *ℤ y) +ℤ (l *ℤ z) → t *ℤ x' ≡ (w *ℤ y) +ℤ (l *ℤ z')
    → t *ℤ ((v *ℤ x') -ℤ (w *ℤ x)) ≡ l *ℤ ((v *ℤ z') -ℤ (w *ℤ z))
cross t l v w y x x' z z' h g =
    let a : t *ℤ ((v *ℤ x') -ℤ (w *ℤ x)) ≡ (v *ℤ (t *ℤ x')) -ℤ (w *ℤ (t *ℤ x)) = simp ring in
    let b : (v *ℤ ((w *ℤ y) +ℤ (l *ℤ z'))) -ℤ (w *ℤ ((v *ℤ y) +ℤ (l *ℤ z))) ≡ l *ℤ ((v *ℤ z') -ℤ (w *ℤ z)) =
    simp ring (omega (arith, ints)) in
    a ∙ ap (λ r. (v *ℤ r) -ℤ (w *ℤ (t *ℤ x))) g ∙ ap (λ r. (v *ℤ ((w *ℤ y) +ℤ (l *ℤ z'))) -ℤ (w *ℤ r)) h ∙ b

-- ---- the path's basis
pub in_first : (P : Program) (basis : ℕ → ℕ) (q f : ℕ) (rows : ℕ → ℕ → ℤ) → StandsBeside P basis q f rows
    → Reached P basis → InFirst P basis
in_first P basis q f rows s r =
    elim (turned_standing P r.0 basis r.1) [
      | inl h ↦ h.1
      | inr h ↦ absurd (h.0 (q, s.inside, sym s.auxiliary))
    ]

pub enters_back : (P : Program) (q : ℕ) (rows : ℕ → ℕ → ℤ) (col : ℕ) → q < P.m → EntersBeside P q rows col
    → Enters (auxiliary_of P) (back_rows P q rows) col
enters_back P q rows col ql v =
    let ci : col < P.n + P.m = v.inside in
    record {
      inside = omega arith;
      improving =
          subst (λ r. r col <ℤ pos 0) (sym (back_last P q rows ql))
          (subst (λ z. z <ℤ pos 0) (sym (objective_other P (rows q) col (omega arith) (omega arith))) v.improving);
      first = λ k kl. subst (λ r. pos 0 ≤ℤ r k) (sym (back_last P q rows ql))
          (subst (λ z. pos 0 ≤ℤ z) (sym (objective_other P (rows q) k (omega arith) (omega arith))) (v.first k kl));
    }

pub none_enters_back : (P : Program) (q : ℕ) (rows : ℕ → ℕ → ℤ) → q < P.m
    → ((k : ℕ) → k < P.n + P.m → pos 0 ≤ℤ rows q k) → IsNonnegative (suc (P.n + P.m)) (back_rows P q rows P.m)
none_enters_back P q rows ql n k kl =
    subst (λ r. pos 0 ≤ℤ r k) (sym (back_last P q rows ql)) (elim (cases_eq k (P.n + P.m)) [
      | inl c ↦ subst (λ v. pos 0 ≤ℤ v)
          (sym (ap (beside_objective P (rows q)) c ∙ objective_column P (rows q))) (omega (arith, ints))
      | inr d ↦ subst (λ v. pos 0 ≤ℤ v) (sym (objective_other P (rows q) k d (omega arith))) (n k (omega arith))
    ])

-- ---- the rows after the pivot
module _ (P : Program) (q col : ℕ) (rows rows' : ℕ → ℕ → ℤ) (ql : q < P.m) (below : rows q (P.n + P.m) <ℤ pos 0)
    (inside : col < P.n + P.m) (improving : rows q col <ℤ pos 0) (v : IsBesidePivot P q col rows rows') where
  -- row i after the pivot, without a division
  after : ℕ → ℕ → ℤ
  after i k = (neg_ℤ (rows q col) *ℤ rows i k) +ℤ (rows i col *ℤ rows q k)

  after_parallel : (i : ℕ) → i ≤ P.m → i ≢ q → IsParallel (suc (suc (suc (P.n + P.m)))) (after i) (rows' i)
  unfolding after
  after_parallel i il d =
      let c : IsClearedBy (suc (suc (suc (P.n + P.m)))) col (rows i) (rows q) (rows' i) = v.row_other i il d in
      let z : c.p *ℤ rows i col ≡ c.q *ℤ rows q col =
      let a : c.divisor *ℤ rows' i col ≡ (c.p *ℤ rows i col) -ℤ (c.q *ℤ rows q col) = c.entries col (omega arith) in
      let b : c.divisor *ℤ rows' i col ≡ pos 0 = ap (λ w. c.divisor *ℤ w) c.cleared ∙ mul-zero c.divisor in
      omega (arith, ints) in
      record {
        p = c.p;
        q = neg_ℤ (rows q col) *ℤ c.divisor;
        p_positive = c.positive;
        q_positive = mul-pos_z (neg_ℤ (rows q col)) c.divisor (omega (arith, ints)) c.divides;
        same = λ k kl.
            let a : c.p *ℤ ((neg_ℤ (rows q col) *ℤ rows i k) +ℤ (rows i col *ℤ rows q k))
            ≡ (neg_ℤ (rows q col) *ℤ (c.p *ℤ rows i k)) +ℤ ((c.p *ℤ rows i col) *ℤ rows q k) = simp ring in
            let b : (neg_ℤ (rows q col) *ℤ (c.p *ℤ rows i k)) +ℤ ((c.q *ℤ rows q col) *ℤ rows q k)
            ≡ neg_ℤ (rows q col) *ℤ ((c.p *ℤ rows i k) -ℤ (c.q *ℤ rows q k)) = simp ring in
            let e : neg_ℤ (rows q col) *ℤ (c.divisor *ℤ rows' i k) ≡ (neg_ℤ (rows q col) *ℤ c.divisor) *ℤ rows' i k =
            simp ring in
            a ∙ ap (λ w. (neg_ℤ (rows q col) *ℤ (c.p *ℤ rows i k)) +ℤ (w *ℤ rows q k)) z ∙ b
            ∙ ap (λ w. neg_ℤ (rows q col) *ℤ w) (sym (c.entries k (omega arith))) ∙ e;
      }

  -- the entering column's entry in the path's rows is minus the auxiliary entry after the pivot
  entry_is : (i : ℕ) → back_row P q rows i col ≡ neg_ℤ (after i (P.n + P.m))
  unfolding after
  entry_is i = auxiliary_entry_is (rows q col) (rows q (P.n + P.m)) (rows i (P.n + P.m)) (rows i col)

  key_is : (i k : ℕ) → neg_ℤ (rows q col) *ℤ key (auxiliary_of P) (back_row P q rows i) k
      ≡ (back_row P q rows i col *ℤ neg_ℤ (key (auxiliary_of P) (rows q) k))
      +ℤ (neg_ℤ (rows q (P.n + P.m)) *ℤ key (auxiliary_of P) (after i) k)
  unfolding after
  key_is i k =
      ap (λ w. neg_ℤ (rows q col) *ℤ w)
      (key_linear (auxiliary_of P) (neg_ℤ (rows q (P.n + P.m))) (rows i (P.n + P.m)) (rows i) (rows q) k)
      ∙ identity (rows q col) (rows q (P.n + P.m)) (rows i (P.n + P.m)) (rows i col) (key (auxiliary_of P) (rows i) k)
      (key (auxiliary_of P) (rows q) k)
      ∙ ap (λ w. (((neg_ℤ (rows q (P.n + P.m)) *ℤ rows i col) +ℤ (rows i (P.n + P.m) *ℤ rows q col))
      *ℤ neg_ℤ (key (auxiliary_of P) (rows q) k)) +ℤ (neg_ℤ (rows q (P.n + P.m)) *ℤ w))
      (sym (key_linear (auxiliary_of P) (neg_ℤ (rows q col)) (rows i col) (rows i) (rows q) k))

  -- which rows are positive in the entering column
  is_below : (i : ℕ) → i < P.m → i ≢ q → pos 0 <ℤ back_row P q rows i col → rows' i (P.n + P.m) <ℤ pos 0
  is_below i il d p =
      let e : back_row P q rows i col ≡ neg_ℤ (after i (P.n + P.m)) = entry_is i in
      parallel_negative (suc (suc (suc (P.n + P.m)))) (after i) (rows' i) (P.n + P.m) (after_parallel i (omega arith) d)
      (omega arith) (omega (arith, ints))

  is_positive : (i : ℕ) → i < P.m → i ≢ q → rows' i (P.n + P.m) <ℤ pos 0 → pos 0 <ℤ back_row P q rows i col
  is_positive i il d n =
      let e : back_row P q rows i col ≡ neg_ℤ (after i (P.n + P.m)) = entry_is i in
      let a : after i (P.n + P.m) <ℤ pos 0 =
      parallel_negative (suc (suc (suc (P.n + P.m)))) (rows' i) (after i) (P.n + P.m)
      (parallel_sym (suc (suc (suc (P.n + P.m)))) (after i) (rows' i) (after_parallel i (omega arith) d))
      (omega arith) n in
      omega (arith, ints)

  -- row q is none of these
  pub row_q_positive : pos 0 <ℤ rows' q (P.n + P.m)
  row_q_positive =
      parallel_positive (suc (suc (suc (P.n + P.m)))) (λ k. neg_ℤ (rows q k)) (rows' q) (P.n + P.m)
      (parallel_sym (suc (suc (suc (P.n + P.m)))) (rows' q) (λ k. neg_ℤ (rows q k)) v.row_at)
      (omega arith) (omega (arith, ints))

  -- two other rows
  compare : (i p : ℕ) → i < P.m → p < P.m → i ≢ q → p ≢ q
      → ComesBefore (auxiliary_of P) (back_row P q rows i) (back_row P q rows i col) (back_row P q rows p)
      (back_row P q rows p col)
      → ComesBefore (auxiliary_of P) (rows' i) (neg_ℤ (rows' i (P.n + P.m))) (rows' p) (neg_ℤ (rows' p (P.n + P.m)))
  compare i p il pl di dp c =
      let h : IsParallel (suc (suc (suc (P.n + P.m)))) (after i) (rows' i) = after_parallel i (omega arith) di in
      let g : IsParallel (suc (suc (suc (P.n + P.m)))) (after p) (rows' p) = after_parallel p (omega arith) dp in
      let neg_same : (x y : ℤ) (a b : ℤ) → a *ℤ x ≡ b *ℤ y → a *ℤ neg_ℤ x ≡ b *ℤ neg_ℤ y =
      (λ x y a b e.
      let u : a *ℤ neg_ℤ x ≡ neg_ℤ (a *ℤ x) = simp ring in
      let w : b *ℤ neg_ℤ y ≡ neg_ℤ (b *ℤ y) = simp ring in
      u ∙ ap neg_ℤ e ∙ sym w) in
      before_parallel (auxiliary_of P) (after i) (rows' i) (after p) (rows' p) (neg_ℤ (after i (P.n + P.m)))
      (neg_ℤ (rows' i (P.n + P.m))) (neg_ℤ (after p (P.n + P.m))) (neg_ℤ (rows' p (P.n + P.m)))
      (auxiliary_tagged P) h g
      (neg_same (after i (P.n + P.m)) (rows' i (P.n + P.m)) h.p h.q (h.same (P.n + P.m) (omega arith)))
      (neg_same (after p (P.n + P.m)) (rows' p (P.n + P.m)) g.p g.q (g.same (P.n + P.m) (omega arith)))
      (lex_unscale (suc P.m) (neg_ℤ (rows q (P.n + P.m)))
      (λ k. (neg_ℤ (after i (P.n + P.m)) *ℤ key (auxiliary_of P) (after p) k)
      -ℤ (neg_ℤ (after p (P.n + P.m)) *ℤ key (auxiliary_of P) (after i) k)) (omega (arith, ints))
      (lex_ext (suc P.m)
      (λ k. neg_ℤ (rows q col)
      *ℤ ((back_row P q rows i col *ℤ key (auxiliary_of P) (back_row P q rows p) k)
      -ℤ (back_row P q rows p col *ℤ key (auxiliary_of P) (back_row P q rows i) k)))
      (λ k. neg_ℤ (rows q (P.n + P.m))
      *ℤ ((neg_ℤ (after i (P.n + P.m)) *ℤ key (auxiliary_of P) (after p) k)
      -ℤ (neg_ℤ (after p (P.n + P.m)) *ℤ key (auxiliary_of P) (after i) k)))
      (λ k kl.
      cross (neg_ℤ (rows q col)) (neg_ℤ (rows q (P.n + P.m))) (back_row P q rows i col) (back_row P q rows p col)
      (neg_ℤ (key (auxiliary_of P) (rows q) k)) (key (auxiliary_of P) (back_row P q rows i) k)
      (key (auxiliary_of P) (back_row P q rows p) k) (key (auxiliary_of P) (after i) k)
      (key (auxiliary_of P) (after p) k) (key_is i k) (key_is p k)
      ∙ ap (λ w. neg_ℤ (rows q (P.n + P.m))
      *ℤ ((w *ℤ key (auxiliary_of P) (after p) k) -ℤ (back_row P q rows p col *ℤ key (auxiliary_of P) (after i) k)))
      (entry_is i)
      ∙ ap (λ w. neg_ℤ (rows q (P.n + P.m))
      *ℤ ((neg_ℤ (after i (P.n + P.m)) *ℤ key (auxiliary_of P) (after p) k)
      -ℤ (w *ℤ key (auxiliary_of P) (after i) k))) (entry_is p))
      (lex_scale (suc P.m) (neg_ℤ (rows q col))
      (λ k. (back_row P q rows i col *ℤ key (auxiliary_of P) (back_row P q rows p) k)
      -ℤ (back_row P q rows p col *ℤ key (auxiliary_of P) (back_row P q rows i) k)) (omega (arith, ints)) c)))

  -- row q before another
  q_before : (p : ℕ) → p < P.m → p ≢ q
      → ComesBefore (auxiliary_of P) (λ k. neg_ℤ (rows q k)) (neg_ℤ (rows q col)) (back_row P q rows p)
      (back_row P q rows p col) → IsLexPositive (suc P.m) (key (auxiliary_of P) (rows' p))
  q_before p pl d c =
      lex_parallel (auxiliary_of P) (after p) (rows' p) (auxiliary_tagged P) (after_parallel p (omega arith) d)
      (lex_unscale (suc P.m) (neg_ℤ (rows q (P.n + P.m))) (key (auxiliary_of P) (after p)) (omega (arith, ints))
      (lex_ext (suc P.m)
      (λ k. (neg_ℤ (rows q col) *ℤ key (auxiliary_of P) (back_row P q rows p) k)
      -ℤ (back_row P q rows p col *ℤ key (auxiliary_of P) (λ k. neg_ℤ (rows q k)) k))
      (λ k. neg_ℤ (rows q (P.n + P.m)) *ℤ key (auxiliary_of P) (after p) k)
      (λ k kl.
      let e : neg_ℤ (rows q col) *ℤ key (auxiliary_of P) (back_row P q rows p) k
      ≡ (back_row P q rows p col *ℤ neg_ℤ (key (auxiliary_of P) (rows q) k))
      +ℤ (neg_ℤ (rows q (P.n + P.m)) *ℤ key (auxiliary_of P) (after p) k) = key_is p k in
      let n : back_row P q rows p col *ℤ key (auxiliary_of P) (λ k. neg_ℤ (rows q k)) k
      ≡ back_row P q rows p col *ℤ neg_ℤ (key (auxiliary_of P) (rows q) k) =
      ap (λ w. back_row P q rows p col *ℤ w) (key_neg (auxiliary_of P) (rows q) k) in
      omega (arith, ints)) c))

  -- another before row q
  before_q : (i : ℕ) → i < P.m → i ≢ q
      → ComesBefore (auxiliary_of P) (back_row P q rows i) (back_row P q rows i col) (λ k. neg_ℤ (rows q k))
      (neg_ℤ (rows q col)) → IsLexNegative (suc P.m) (key (auxiliary_of P) (rows' i))
  before_q i il d c =
      negative_parallel (auxiliary_of P) (after i) (rows' i) (auxiliary_tagged P) (after_parallel i (omega arith) d)
      (lex_unscale (suc P.m) (neg_ℤ (rows q (P.n + P.m)))
      (λ k. neg_ℤ (key (auxiliary_of P) (after i) k)) (omega (arith, ints))
      (lex_ext (suc P.m)
      (λ k. (back_row P q rows i col *ℤ key (auxiliary_of P) (λ k. neg_ℤ (rows q k)) k)
      -ℤ (neg_ℤ (rows q col) *ℤ key (auxiliary_of P) (back_row P q rows i) k))
      (λ k. neg_ℤ (rows q (P.n + P.m)) *ℤ neg_ℤ (key (auxiliary_of P) (after i) k))
      (λ k kl.
      let e : neg_ℤ (rows q col) *ℤ key (auxiliary_of P) (back_row P q rows i) k
      ≡ (back_row P q rows i col *ℤ neg_ℤ (key (auxiliary_of P) (rows q) k))
      +ℤ (neg_ℤ (rows q (P.n + P.m)) *ℤ key (auxiliary_of P) (after i) k) = key_is i k in
      let n : back_row P q rows i col *ℤ key (auxiliary_of P) (λ k. neg_ℤ (rows q k)) k
      ≡ back_row P q rows i col *ℤ neg_ℤ (key (auxiliary_of P) (rows q) k) =
      ap (λ w. back_row P q rows i col *ℤ w) (key_neg (auxiliary_of P) (rows q) k) in
      let o : neg_ℤ (rows q (P.n + P.m)) *ℤ neg_ℤ (key (auxiliary_of P) (after i) k)
      ≡ neg_ℤ (neg_ℤ (rows q (P.n + P.m)) *ℤ key (auxiliary_of P) (after i) k) = simp ring in
      omega (arith, ints)) c))

  -- ---- the position that leaves
  -- the row that comes first
  pub leaves_other : (p : ℕ) → IsLeast (auxiliary_of P) (P.n + P.m) rows' p → p ≢ q
      → Leaves (auxiliary_of P) (back_rows P q rows) col p
  leaves_other p l d =
      let pl : p < P.m = l.inside in
      let wp : pos 0 <ℤ back_row P q rows p col = is_positive p pl d l.below in
      record {
        inside = pl;
        positive = subst (λ r. pos 0 <ℤ r col) (sym (back_other P q rows p pl d)) wp;
        first = λ i il pi c0.
            let c : ComesBefore (auxiliary_of P) (back_rows P q rows i) (back_rows P q rows i col) (back_row P q rows p)
            (back_row P q rows p col) =
            subst (λ r. ComesBefore (auxiliary_of P) (back_rows P q rows i) (back_rows P q rows i col) r (r col))
            (back_other P q rows p pl d) c0 in
            elim (cases_eq i q) [
              | inl e ↦
                  let r : back_rows P q rows i ≡ (λ k. neg_ℤ (rows q k)) =
                  ap (back_rows P q rows) e ∙ back_at P q rows in
                  not_both (suc P.m) (key (auxiliary_of P) (rows' p))
                  (q_before p pl d
                  (subst (λ r. ComesBefore (auxiliary_of P) r (r col) (back_row P q rows p)
                  (back_row P q rows p col)) r c)) l.negative
              | inr di ↦
                  let r : back_rows P q rows i ≡ back_row P q rows i = back_other P q rows i il di in
                  let c' : ComesBefore (auxiliary_of P) (rows' i) (neg_ℤ (rows' i (P.n + P.m))) (rows' p)
                  (neg_ℤ (rows' p (P.n + P.m))) =
                  compare i p il pl di d
                  (subst (λ r. ComesBefore (auxiliary_of P) r (r col) (back_row P q rows p)
                  (back_row P q rows p col)) r c) in
                  let bi : rows' i (P.n + P.m) <ℤ pos 0 = is_below i il di (subst (λ r. pos 0 <ℤ r col) r pi) in
                  let bp : rows' p (P.n + P.m) <ℤ pos 0 = l.below in
                  l.first i il bi
                  (before_negative (auxiliary_of P) (rows' i) (rows' p) (neg_ℤ (rows' i (P.n + P.m)))
                  (neg_ℤ (rows' p (P.n + P.m))) (omega (arith, ints)) (omega (arith, ints)) l.negative c') c'
            ];
      }

  -- position q where there is none
  pub leaves_q : HasNoLeast (auxiliary_of P) (P.n + P.m) rows' → Leaves (auxiliary_of P) (back_rows P q rows) col q
  leaves_q n = record {
    inside = ql;
    positive = subst (λ r. pos 0 <ℤ r col) (sym (back_at P q rows)) (omega (arith, ints));
    first = λ i il pi c0.
        let c : ComesBefore (auxiliary_of P) (back_rows P q rows i) (back_rows P q rows i col)
        (λ k. neg_ℤ (rows q k)) (neg_ℤ (rows q col)) =
        subst (λ r. ComesBefore (auxiliary_of P) (back_rows P q rows i) (back_rows P q rows i col) r (r col))
        (back_at P q rows) c0 in
        elim (cases_eq i q) [
          | inl e ↦
              let r : back_rows P q rows i ≡ (λ k. neg_ℤ (rows q k)) = ap (back_rows P q rows) e ∙ back_at P q rows in
              before_not_self (auxiliary_of P) (λ k. neg_ℤ (rows q k)) (neg_ℤ (rows q col))
              (subst (λ r. ComesBefore (auxiliary_of P) r (r col) (λ k. neg_ℤ (rows q k)) (neg_ℤ (rows q col))) r c)
          | inr di ↦
              let r : back_rows P q rows i ≡ back_row P q rows i = back_other P q rows i il di in
              n i il (is_below i il di (subst (λ r. pos 0 <ℤ r col) r pi))
              (before_q i il di
              (subst (λ r. ComesBefore (auxiliary_of P) r (r col) (λ k. neg_ℤ (rows q k)) (neg_ℤ (rows q col))) r
              c))
        ];
  }

  pub least_is_other : (p : ℕ) → IsLeast (auxiliary_of P) (P.n + P.m) rows' p → p ≢ q
  least_is_other p l e =
      let a : pos 0 <ℤ rows' q (P.n + P.m) = row_q_positive in
      let b : rows' q (P.n + P.m) <ℤ pos 0 = subst (λ v. rows' v (P.n + P.m) <ℤ pos 0) e l.below in
      omega (arith, ints)
