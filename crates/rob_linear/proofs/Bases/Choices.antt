-- From each basis of a path either one turn leads on, or the path ends there.
use Rattle.std.proofs.Common.{◌≡◌, ℕ, zero, suc, ◌<◌, sym, refl, subst, arith, inl, inr, ◌⊎◌, cond, eqb}
use Rattle.std.proofs.lemmas.Int.{ints, by_lt_z}
use Rattle.std.proofs.lemmas.Bool.{cases_eq}
use lib.IntN.{ℤ, pos, ◌-ℤ◌, ◌*ℤ◌, neg_ℤ}
use lib.Signed.{◌<ℤ◌, ◌≤ℤ◌}
use Rattle.rob_linear.specs.Systems.{System, right, IsBasis, IsNonnegative, Feasible, EndsOptimal, EndsUnbounded}
use Rattle.rob_linear.specs.Turns.{key, ComesBefore, IsLexFeasible, Enters, Leaves, own_of, StandsWith, TurnsTo}
use Rattle.rob_linear.proofs.Bases.Lexical.{lex_cases, lex_not_zero, lex_add, before_trans}
use Rattle.rob_linear.proofs.Bases.Unique.{rows_equal}
use Rattle.rob_linear.proofs.Bases.Turns.{AreEqual, enters_same, enters_unique}

-- the first negative of n numbers, or none is negative
pub first_negative : (n : ℕ) (f : ℕ → ℤ) → ((k : ℕ) × (k < n) × (f k <ℤ pos 0) × ((j : ℕ) → j < k → pos 0 ≤ℤ f j))
    ⊎ ((k : ℕ) → k < n → pos 0 ≤ℤ f k)
first_negative zero f = inr (λ k l. absurd (omega arith))
first_negative (suc n) f =
    elim (first_negative n f) [
      | inl h ↦ let l : h.0 < n = h.1 in inl (h.0, omega arith, h.2, h.3)
      | inr z ↦
          by_lt_z (f n) (pos 0) (λ h. inl (n, omega arith, h, z)) (λ h. inr (λ k l. elim (cases_eq k n) [
            | inl e ↦ subst (λ v. pos 0 ≤ℤ f v) (sym e) (omega (arith, ints))
            | inr d ↦ z k (omega arith)
          ]))
    ]

pub enters_or_none : (S : System) (rows : ℕ → ℕ → ℤ) → ((col : ℕ) × Enters S rows col)
    ⊎ IsNonnegative S.columns (rows S.m)
enters_or_none S rows =
    elim (first_negative S.columns (rows S.m)) [
      | inl h ↦ inl (h.0, record { inside = h.1; improving = h.2; first = h.3 })
      | inr z ↦ inr z
    ]

-- nothing comes both before and behind, nor before itself
pub before_cases : (S : System) (a b : ℕ → ℤ) (p q : ℤ) → ComesBefore S a p b q ⊎ ¬ (ComesBefore S a p b q)
before_cases S a b p q =
    elim (lex_cases (suc S.m) (λ k. (p *ℤ key S b k) -ℤ (q *ℤ key S a k))) [
      | inl h ↦ inl h
      | inr (inl h) ↦
          inr (λ c.
          lex_not_zero (suc S.m) (λ k. ((p *ℤ key S b k) -ℤ (q *ℤ key S a k)) -ℤ ((p *ℤ key S b k) -ℤ (q *ℤ key S a k)))
          (λ k kl. omega (arith, ints))
          (lex_add (suc S.m) (λ k. (p *ℤ key S b k) -ℤ (q *ℤ key S a k))
          (λ k. neg_ℤ ((p *ℤ key S b k) -ℤ (q *ℤ key S a k))) c h))
      | inr (inr z) ↦ inr (λ c. lex_not_zero (suc S.m) (λ k. (p *ℤ key S b k) -ℤ (q *ℤ key S a k)) z c)
    ]

pub before_not_self : (S : System) (a : ℕ → ℤ) (p : ℤ) → ¬ (ComesBefore S a p a p)
before_not_self S a p c =
    lex_not_zero (suc S.m) (λ k. (p *ℤ key S a k) -ℤ (p *ℤ key S a k)) (λ k kl. omega (arith, ints)) c

-- of the first n rows, e is the one that leaves
abbrev pub LeavesBelow : System → (ℕ → ℕ → ℤ) → ℕ → ℕ → ℕ → Type 0
LeavesBelow S rows col n e =
    (e < n) × (pos 0 <ℤ rows e col)
    × ((i : ℕ) → i < n → pos 0 <ℤ rows i col → ¬ (ComesBefore S (rows i) (rows i col) (rows e) (rows e col)))

-- one row more
leaves_next : (S : System) (rows : ℕ → ℕ → ℤ) (col n e : ℕ) → LeavesBelow S rows col n e → (e : ℕ)
    × LeavesBelow S rows col (suc n) e
leaves_next S rows col n e h =
    let l : e < n = h.0 in
    let stays : (pos 0 <ℤ rows n col → ¬ (ComesBefore S (rows n) (rows n col) (rows e) (rows e col))) → (e : ℕ)
    × LeavesBelow S rows col (suc n) e =
    (λ not. (
      e,
      (
        omega arith,
        h.1,
        (λ i il p. elim (cases_eq i n) [
          | inl c ↦ (λ b. not (subst (λ v. pos 0 <ℤ rows v col) c p)
              (subst (λ v. ComesBefore S (rows v) (rows v col) (rows e) (rows e col)) c b))
          | inr d ↦ h.2 i (omega arith) p
        ]),
      ),
    )) in
    by_lt_z (pos 0) (rows n col) (λ np.
    elim (before_cases S (rows n) (rows e) (rows n col) (rows e col)) [
      | inr not ↦ stays (λ p. not)
      | inl b ↦ (
        n,
        (
          omega arith,
          np,
          (λ i il p. elim (cases_eq i n) [
            | inl c ↦ (λ w. before_not_self S (rows n) (rows n col)
                (subst (λ v. ComesBefore S (rows v) (rows v col) (rows n) (rows n col)) c w))
            | inr d ↦ (λ w.
                h.2 i (omega arith) p
                (before_trans S (rows i) (rows n) (rows e) (rows i col) (rows n col) (rows e col) p np h.1 w b))
          ]),
        ),
      )
    ]) (λ np. stays (λ p. absurd (omega (arith, ints))))

pub leaves_below : (S : System) (rows : ℕ → ℕ → ℤ) (col n : ℕ) → ((e : ℕ) × LeavesBelow S rows col n e)
    ⊎ ((i : ℕ) → i < n → rows i col ≤ℤ pos 0)
leaves_below S rows col zero = inr (λ i l. absurd (omega arith))
leaves_below S rows col (suc n) =
    elim (leaves_below S rows col n) [
      | inl h ↦ inl (leaves_next S rows col n h.0 h.1)
      | inr z ↦
          by_lt_z (pos 0) (rows n col) (λ np.
          inl (
            n,
            (
              omega arith,
              np,
              (λ i il p. elim (cases_eq i n) [
                | inl c ↦ (λ w. before_not_self S (rows n) (rows n col)
                    (subst (λ v. ComesBefore S (rows v) (rows v col) (rows n) (rows n col)) c w))
                | inr d ↦ let y : rows i col ≤ℤ pos 0 = z i (omega arith) in absurd (omega (arith, ints))
              ]),
            ),
          ))
          (λ np. inr (λ i il. elim (cases_eq i n) [
            | inl c ↦ subst (λ v. rows v col ≤ℤ pos 0) (sym c) (omega (arith, ints))
            | inr d ↦ z i (omega arith)
          ]))
    ]

pub leaves_or_none : (S : System) (rows : ℕ → ℕ → ℤ) (col : ℕ) → ((e : ℕ) × Leaves S rows col e)
    ⊎ ((i : ℕ) → i < S.m → rows i col ≤ℤ pos 0)
leaves_or_none S rows col =
    elim (leaves_below S rows col S.m) [
      | inl h ↦ inl (h.0, record { inside = h.1.0; positive = h.1.1; first = h.1.2 })
      | inr z ↦ inr z
    ]

-- a lexicographically positive key does not begin with a negative right side
pub lex_feasible : (S : System) (rows : ℕ → ℕ → ℤ) → IsLexFeasible S rows → Feasible S rows
lex_feasible S rows f i il =
    let h : (k : ℕ) × (k < suc S.m) × ((j : ℕ) → j < k → key S (rows i) j ≡ pos 0)
    × (pos 0 <ℤ key S (rows i) k) = f i il in
    elim (cases_eq h.0 0) [
      | inl e ↦ let p : pos 0 <ℤ rows i (right S) = subst (λ v. pos 0 <ℤ key S (rows i) v) e h.3 in omega (arith, ints)
      | inr d ↦ let z : rows i (right S) ≡ pos 0 = h.2 0 (omega arith) in omega (arith, ints)
    ]

-- what a basis of a path does next
pub turn_or_end : (S : System) (basis : ℕ → ℕ) (rows : ℕ → ℕ → ℤ) → StandsWith S basis rows
    → ((next : ℕ → ℕ) × TurnsTo S basis next)
    ⊎ (EndsOptimal S rows ⊎ ((col : ℕ) × Enters S rows col × EndsUnbounded S (own_of S basis) rows col))
turn_or_end S basis rows s =
    elim (enters_or_none S rows) [
      | inr n ↦ inr (inl record { feasible = lex_feasible S rows s.feasible; no_improving = n })
      | inl v ↦
          elim (leaves_or_none S rows v.0) [
            | inr z ↦ inr
                (inr (
                  v.0,
                  v.1,
                  record {
                    feasible = lex_feasible S rows s.feasible;
                    inside = v.1.inside;
                    improving = v.1.improving;
                    no_limit = z;
                  },
                ))
            | inl w ↦ inl (
              (λ i. cond (eqb i w.0) v.0 (basis i)),
              record {
                rows = rows;
                position = w.0;
                column = v.0;
                is_basis = s.is_basis;
                enters = v.1;
                leaves = w.1;
                exchanged = λ i l. refl;
              },
            )
          ]
    ]

-- no turn leads on from an ending
pub optimal_ends : (S : System) (basis next : ℕ → ℕ) (rows : ℕ → ℕ → ℤ) → IsBasis S (own_of S basis) rows
    → IsNonnegative S.columns (rows S.m) → ¬ (TurnsTo S basis next)
optimal_ends S basis next rows b n t =
    let e : AreEqual S t.rows rows = rows_equal S (own_of S basis) t.rows rows t.is_basis b in
    let v : Enters S rows t.column = enters_same S t.rows rows t.column e t.enters in
    let imp : rows S.m t.column <ℤ pos 0 = v.improving in
    let z : pos 0 ≤ℤ rows S.m t.column = n t.column v.inside in
    omega (arith, ints)

pub unbounded_ends : (S : System) (basis next : ℕ → ℕ) (rows : ℕ → ℕ → ℤ) (col : ℕ) → IsBasis S (own_of S basis) rows
    → Enters S rows col → ((i : ℕ) → i < S.m → rows i col ≤ℤ pos 0) → ¬ (TurnsTo S basis next)
unbounded_ends S basis next rows col b v z t =
    let e : AreEqual S t.rows rows = rows_equal S (own_of S basis) t.rows rows t.is_basis b in
    let c : t.column ≡ col = enters_unique S rows t.column col (enters_same S t.rows rows t.column e t.enters) v in
    let pl : t.position < S.m = t.leaves.inside in
    let cl : t.column < S.columns = t.enters.inside in
    let p : pos 0 <ℤ t.rows t.position t.column = t.leaves.positive in
    let q : t.rows t.position t.column ≡ rows t.position t.column = e t.position (omega arith) t.column (omega arith) in
    let y : rows t.position t.column ≤ℤ pos 0 = subst (λ v. rows t.position v ≤ℤ pos 0) (sym c) (z t.position pl) in
    omega (arith, ints)
