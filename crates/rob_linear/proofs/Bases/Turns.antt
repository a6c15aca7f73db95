-- Turns of bases: each has one next basis, and its rows are those that a pivot makes.
use Rattle.std.proofs.Common.{◌≡◌, ℕ, suc, ◌<◌, ◌≤◌, sym, ap, ◌∙◌, subst, arith, inl, inr, cond, eqb}
use Rattle.std.proofs.lemmas.Int.{ints}
use Rattle.std.proofs.lemmas.Bool.{cases_eq, cases_lt, cases_order}
use Rattle.std.proofs.lemmas.Bool.Decides.{nat_tests}
use lib.IntN.{ℤ, pos, ◌-ℤ◌, ◌*ℤ◌, neg_ℤ}
use lib.Signed.{◌<ℤ◌, ◌≤ℤ◌}
use Rattle.rob_linear.specs.Systems.{System, IsTagged, objective, right, IsBasis, RowOf}
use Rattle.rob_linear.specs.Turns.{key, ComesBefore, IsLexFeasible, IsExchange, IsPivot, Enters, Leaves, IsTurn, Rises, own_of, IsSameBasis, StandsWith, TurnsTo}
use Rattle.std.specs.Int.RustNames.{unsigned_abs}
use Rattle.std.specs.Int.{◌∣◌}
use Rattle.rob_linear.proofs.LinearPrograms.Sums.{sum_ext}
use Rattle.rob_linear.proofs.Bases.Solutions.{tags_in, own_below}
use Rattle.rob_linear.proofs.Bases.Pivots.{basis_pivotable, pivot_is_basis}
use Rattle.rob_linear.proofs.Bases.Primitive.{pivot_exists}
use Rattle.rob_linear.proofs.Bases.Lexical.{lex_ext, lex_cases, key_same, not_proportional, turn_keeps_order, turn_rises}
use Rattle.rob_linear.proofs.Bases.Unique.{rows_equal}

-- ---- the columns of positions
pub own_low : (S : System) (basis : ℕ → ℕ) (i : ℕ) → i < S.m → own_of S basis i ≡ basis i
own_low S basis i l = grind (arith, nat_tests)

pub own_high : (S : System) (basis : ℕ → ℕ) (i : ℕ) → S.m ≤ i → own_of S basis i ≡ objective S
own_high S basis i l = grind (arith, nat_tests)

pub own_same : (S : System) (basis basis' : ℕ → ℕ) → IsSameBasis S.m basis basis' → (i : ℕ)
    → own_of S basis i ≡ own_of S basis' i
own_same S basis basis' h i =
    elim (cases_lt i S.m) [
      | inl l ↦ own_low S basis i l ∙ h i l ∙ sym (own_low S basis' i l)
      | inr l ↦ own_high S basis i (omega arith) ∙ sym (own_high S basis' i (omega arith))
    ]

pub basis_same : (S : System) (own own' : ℕ → ℕ) (rows : ℕ → ℕ → ℤ) → ((i : ℕ) → i ≤ S.m → own' i ≡ own i)
    → IsBasis S own' rows → IsBasis S own rows
basis_same S own own' rows e b = record {
  inside = λ i l. subst (λ v. v < S.columns) (e i (omega arith)) (b.inside i l);
  last = sym (e S.m (omega arith)) ∙ b.last;
  rows_of = λ i l. record {
    positive = subst (λ v. pos 0 <ℤ rows i v) (e i l) (b.rows_of i l).positive;
    along = record {
      zeros = λ j jl d. subst (λ v. rows i v ≡ pos 0) (e j jl) ((b.rows_of i l).zeros j jl d);
      spanned = (b.rows_of i l).spanned;
    };
    primitive = (b.rows_of i l).primitive;
  };
}

-- ---- rows with the same entries
abbrev pub AreEqual : System → (ℕ → ℕ → ℤ) → (ℕ → ℕ → ℤ) → Type 0
AreEqual S rows rows' = (i : ℕ) → i ≤ S.m → (k : ℕ) → k ≤ right S → rows i k ≡ rows' i k

-- what holds of the rows of a basis holds of rows with the same entries
pub row_of_equal : (S : System) (own : ℕ → ℕ) (i : ℕ) (r r' : ℕ → ℤ) → IsTagged S
    → ((j : ℕ) → j ≤ S.m → own j ≤ right S) → i ≤ S.m → ((k : ℕ) → k ≤ right S → r k ≡ r' k)
    → RowOf S own i r → RowOf S own i r'
row_of_equal S own i r r' g inside il e h = record {
  along = record {
    zeros = λ j jl d. sym (e (own j) (inside j jl)) ∙ h.zeros j jl d;
    spanned = λ k kl.
        sym (e k kl) ∙ h.spanned k kl
        ∙ sum_ext (suc S.m) (λ t. r (S.tag t) *ℤ S.start t k) (λ t. r' (S.tag t) *ℤ S.start t k)
        (λ t tl. ap (λ v. v *ℤ S.start t k) (e (S.tag t) (tags_in S g t (omega arith))));
  };
  positive = subst (λ v. pos 0 <ℤ v) (e (own i) (inside i il)) h.positive;
  primitive = λ d k. h.primitive d (λ j jl. subst (λ v. d ∣ unsigned_abs v) (sym (e j (omega arith))) (k j jl));
}

pub basis_equal : (S : System) (own : ℕ → ℕ) (rows rows' : ℕ → ℕ → ℤ) → IsTagged S → AreEqual S rows rows'
    → IsBasis S own rows → IsBasis S own rows'
basis_equal S own rows rows' g e b = record {
  inside = b.inside;
  last = b.last;
  rows_of = λ i il. row_of_equal S own i (rows i) (rows' i) g
      (λ j jl. let l : own j < suc S.columns = own_below S own rows b j jl in omega arith) il (e i il) (b.rows_of i il);
}

pub before_same : (S : System) (a a' b b' : ℕ → ℤ) (p p' q q' : ℤ) → IsTagged S → ((k : ℕ) → k ≤ right S → a k ≡ a' k)
    → ((k : ℕ) → k ≤ right S → b k ≡ b' k) → p ≡ p' → q ≡ q' → ComesBefore S a p b q → ComesBefore S a' p' b' q'
before_same S a a' b b' p p' q q' g ha hb hp hq c =
    lex_ext (suc S.m) (λ k. (p *ℤ key S b k) -ℤ (q *ℤ key S a k))
    (λ k. (p' *ℤ key S b' k) -ℤ (q' *ℤ key S a' k)) (λ k kl.
    ap (λ v. (v *ℤ key S b k) -ℤ (q *ℤ key S a k)) hp
    ∙ ap (λ v. (p' *ℤ v) -ℤ (q *ℤ key S a k)) (sym (key_same S b' b (tags_in S g) hb k kl))
    ∙ ap (λ v. (p' *ℤ key S b' k) -ℤ (v *ℤ key S a k)) hq
    ∙ ap (λ v. (p' *ℤ key S b' k) -ℤ (q' *ℤ v)) (sym (key_same S a' a (tags_in S g) ha k kl))) c

pub feasible_same : (S : System) (rows rows' : ℕ → ℕ → ℤ) → IsTagged S → AreEqual S rows rows'
    → IsLexFeasible S rows → IsLexFeasible S rows'
feasible_same S rows rows' g e f i il =
    lex_ext (suc S.m) (key S (rows i)) (key S (rows' i))
    (λ k kl. sym (key_same S (rows' i) (rows i) (tags_in S g) (e i (omega arith)) k kl)) (f i il)

pub enters_same : (S : System) (rows rows' : ℕ → ℕ → ℤ) (col : ℕ) → AreEqual S rows rows'
    → Enters S rows col → Enters S rows' col
enters_same S rows rows' col e v =
    let ci : col < S.columns = v.inside in
    record {
      inside = v.inside;
      improving = subst (λ u. u <ℤ pos 0) (e S.m (omega arith) col (omega arith)) v.improving;
      first = λ k kl. subst (λ u. pos 0 ≤ℤ u) (e S.m (omega arith) k (omega arith)) (v.first k kl);
    }

pub leaves_same : (S : System) (rows rows' : ℕ → ℕ → ℤ) (col p : ℕ) → IsTagged S → col < S.columns
    → AreEqual S rows rows' → Leaves S rows col p → Leaves S rows' col p
leaves_same S rows rows' col p g cl e v =
    let pl : p < S.m = v.inside in
    record {
      inside = v.inside;
      positive = subst (λ u. pos 0 <ℤ u) (e p (omega arith) col (omega arith)) v.positive;
      first = λ i il h c.
          v.first i il (subst (λ u. pos 0 <ℤ u) (sym (e i (omega arith) col (omega arith))) h)
          (before_same S (rows' i) (rows i) (rows' p) (rows p) (rows' i col) (rows i col) (rows' p col) (rows p col) g
          (λ k kl. sym (e i (omega arith) k kl)) (λ k kl. sym (e p (omega arith) k kl))
          (sym (e i (omega arith) col (omega arith))) (sym (e p (omega arith) col (omega arith))) c);
    }

-- ---- one column enters, and one position leaves
pub enters_unique : (S : System) (rows : ℕ → ℕ → ℤ) (c d : ℕ) → Enters S rows c → Enters S rows d → c ≡ d
enters_unique S rows c d v w =
    let vi : rows S.m c <ℤ pos 0 = v.improving in
    let wi : rows S.m d <ℤ pos 0 = w.improving in
    elim (cases_order c d) [
      | inl e ↦ e
      | inr (inl l) ↦ let z : pos 0 ≤ℤ rows S.m c = w.first c l in absurd (omega (arith, ints))
      | inr (inr l) ↦ let z : pos 0 ≤ℤ rows S.m d = v.first d l in absurd (omega (arith, ints))
    ]

-- two rows can't tie: their keys are no multiples of one another
pub leaves_unique : (S : System) (own : ℕ → ℕ) (rows : ℕ → ℕ → ℤ) (col p q : ℕ) → IsTagged S → IsBasis S own rows
    → Leaves S rows col p → Leaves S rows col q → p ≡ q
leaves_unique S own rows col p q g b v w =
    elim (cases_eq p q) [
      | inl e ↦ e
      | inr d ↦ elim (lex_cases (suc S.m) (λ k. (rows p col *ℤ key S (rows q) k) -ℤ (rows q col *ℤ key S (rows p) k))) [
        | inl h ↦ absurd (w.first p v.inside v.positive h)
        | inr (inl h) ↦
            absurd (v.first q w.inside w.positive
            (lex_ext (suc S.m) (λ k. neg_ℤ ((rows p col *ℤ key S (rows q) k) -ℤ (rows q col *ℤ key S (rows p) k)))
            (λ k. (rows q col *ℤ key S (rows p) k) -ℤ (rows p col *ℤ key S (rows q) k))
            (λ k kl. omega (arith, ints)) h))
        | inr (inr h) ↦
            absurd (not_proportional S own rows q p (rows p col) (rows q col) (tags_in S g) g.last b w.inside v.inside
            (λ e. d (sym e)) v.positive h)
      ]
    ]

-- ---- turns
pub turn_same : (S : System) (basis basis' next : ℕ → ℕ) → IsSameBasis S.m basis basis'
    → TurnsTo S basis next → TurnsTo S basis' next
turn_same S basis basis' next h t = record {
  rows = t.rows;
  position = t.position;
  column = t.column;
  is_basis = basis_same S (own_of S basis') (own_of S basis) t.rows (λ i l. own_same S basis basis' h i) t.is_basis;
  enters = t.enters;
  leaves = t.leaves;
  exchanged = λ i l. t.exchanged i l ∙ ap (λ v. cond (eqb i t.position) t.column v) (h i l);
}

-- from one basis to one basis
pub turn_unique : (S : System) (basis next next' : ℕ → ℕ) → IsTagged S → TurnsTo S basis next → TurnsTo S basis next'
    → IsSameBasis S.m next next'
turn_unique S basis next next' g t u =
    let e : AreEqual S u.rows t.rows = rows_equal S (own_of S basis) u.rows t.rows u.is_basis t.is_basis in
    let c : t.column ≡ u.column =
    enters_unique S t.rows t.column u.column t.enters (enters_same S u.rows t.rows u.column e u.enters) in
    let p : t.position ≡ u.position =
    leaves_unique S (own_of S basis) t.rows t.column t.position u.position g t.is_basis t.leaves
    (leaves_same S u.rows t.rows t.column u.position g t.enters.inside e
    (subst (λ v. Leaves S u.rows v u.position) (sym c) u.leaves)) in
    (λ i l. t.exchanged i l ∙ ap (λ v. cond (eqb i v) t.column (basis i)) p
    ∙ ap (λ v. cond (eqb i u.position) v (basis i)) c ∙ sym (u.exchanged i l))

-- the pivot that a turn makes
pub turn_exchange : (S : System) (basis next : ℕ → ℕ) → (t : TurnsTo S basis next)
    → IsExchange S (own_of S basis) (own_of S next) t.rows t.position t.column
turn_exchange S basis next t =
    let pl : t.position < S.m = t.leaves.inside in
    record {
      row_in = t.leaves.inside;
      col_in = t.enters.inside;
      entry = t.leaves.positive;
      own_at =
          let e : cond (eqb t.position t.position) t.column (basis t.position) ≡ t.column = grind (arith, nat_tests) in
          own_low S next t.position pl ∙ t.exchanged t.position pl ∙ e;
      own_other = λ i d. elim (cases_lt i S.m) [
        | inl l ↦
            let e : cond (eqb i t.position) t.column (basis i) ≡ basis i = grind (arith, nat_tests) in
            own_low S next i l ∙ t.exchanged i l ∙ e ∙ sym (own_low S basis i l)
        | inr l ↦ own_high S next i (omega arith) ∙ sym (own_high S basis i (omega arith))
      ];
    }

-- a turn of rows is one of bases
pub rows_turn : (S : System) (basis next : ℕ → ℕ) (rows rows' : ℕ → ℕ → ℤ) (e col : ℕ) → IsBasis S (own_of S basis) rows
    → IsTurn S (own_of S basis) (own_of S next) rows rows' e col → TurnsTo S basis next
rows_turn S basis next rows rows' e col b t = record {
  rows = rows;
  position = e;
  column = col;
  is_basis = b;
  enters = t.enters;
  leaves = t.leaves;
  exchanged = λ i l. elim (cases_eq i e) [
    | inl c ↦
        let f : cond (eqb i e) col (basis i) ≡ col = grind (arith, nat_tests) in
        sym (own_low S next i l) ∙ ap (own_of S next) c ∙ t.pivot.own_at ∙ sym f
    | inr d ↦
        let f : cond (eqb i e) col (basis i) ≡ basis i = grind (arith, nat_tests) in
        sym (own_low S next i l) ∙ t.pivot.own_other i d ∙ own_low S basis i l ∙ sym f
  ];
}

-- ---- the rows of a basis that a path has reached
pub stands_same : (S : System) (basis basis' : ℕ → ℕ) (rows : ℕ → ℕ → ℤ) → IsSameBasis S.m basis basis'
    → StandsWith S basis rows → StandsWith S basis' rows
stands_same S basis basis' rows h s = record {
  is_basis = basis_same S (own_of S basis') (own_of S basis) rows (λ i l. own_same S basis basis' h i) s.is_basis;
  feasible = s.feasible;
}

pub stands_equal : (S : System) (basis : ℕ → ℕ) (rows rows' : ℕ → ℕ → ℤ) → IsTagged S → AreEqual S rows rows'
    → StandsWith S basis rows → StandsWith S basis rows'
stands_equal S basis rows rows' g e s = record {
  is_basis = basis_equal S (own_of S basis) rows rows' g e s.is_basis;
  feasible = feasible_same S rows rows' g e s.feasible;
}

-- a turn keeps the rows' order, and the objective's row rises
pub turn_stands : (S : System) (basis next : ℕ → ℕ) (rows : ℕ → ℕ → ℤ) → IsTagged S → StandsWith S basis rows
    → TurnsTo S basis next → (rows' : ℕ → ℕ → ℤ) × StandsWith S next rows' × Rises S (rows S.m) (rows' S.m)
turn_stands S basis next rows g s t =
    let e : AreEqual S t.rows rows = rows_equal S (own_of S basis) t.rows rows t.is_basis s.is_basis in
    let cl : t.column < S.columns = t.enters.inside in
    let pl : t.position < S.m = t.leaves.inside in
    let x : IsExchange S (own_of S basis) (own_of S next) rows t.position t.column =
    let y : IsExchange S (own_of S basis) (own_of S next) t.rows t.position t.column = turn_exchange S basis next t in
    record {
      row_in = y.row_in;
      col_in = y.col_in;
      entry = subst (λ v. pos 0 <ℤ v) (e t.position (omega arith) t.column (omega arith)) y.entry;
      own_at = y.own_at;
      own_other = y.own_other;
    } in
    let v : (rows' : ℕ → ℕ → ℤ) × IsPivot S (own_of S basis) (own_of S next) rows rows' t.position t.column =
    pivot_exists S (own_of S basis) (own_of S next) rows t.position t.column
    (basis_pivotable S (own_of S basis) rows t.position (omega arith) s.is_basis) x in
    let u : IsTurn S (own_of S basis) (own_of S next) rows v.0 t.position t.column =
    record {
      pivot = v.1;
      enters = enters_same S t.rows rows t.column e t.enters;
      leaves = leaves_same S t.rows rows t.column t.position g cl e t.leaves;
    } in (
      v.0,
      record {
        is_basis = pivot_is_basis S (own_of S basis) (own_of S next) rows v.0 t.position t.column (tags_in S g)
            (basis_pivotable S (own_of S basis) rows t.position (omega arith) s.is_basis) v.1;
        feasible = turn_keeps_order S (own_of S basis) (own_of S next) rows v.0 t.position t.column (tags_in S g) g.last
            s.is_basis s.feasible u;
      },
      turn_rises S (own_of S basis) (own_of S next) rows v.0 t.position t.column g s.is_basis s.feasible u,
    )
