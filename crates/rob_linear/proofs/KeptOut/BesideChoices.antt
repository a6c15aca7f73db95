-- From each state beside there is a turn or an end: a column enters or none does, the pivot can be made, and a row is
-- the least or there is none.
use Rattle.std.proofs.Common.{◌≡◌, ◌≢◌, ℕ, zero, suc, ◌+◌, ◌<◌, sym, subst, arith, inl, inr, ◌⊎◌, cond, eqb}
use Rattle.std.proofs.lemmas.Int.{ints, by_lt_z}
use Rattle.std.proofs.lemmas.Bool.{cases_eq}
use Rattle.std.proofs.lemmas.Bool.Decides.{nat_tests}
use lib.IntN.{ℤ, pos, ◌-ℤ◌, ◌*ℤ◌, neg_ℤ}
use lib.Signed.{◌<ℤ◌, ◌≤ℤ◌}
use Rattle.rob_algebra.specs.Integer.{ring}
use Rattle.rob_linear.specs.Systems.{System, right}
use Rattle.rob_linear.specs.Programs.{Program, kept_of}
use Rattle.rob_linear.specs.Turns.{key, ComesBefore}
use Rattle.rob_linear.specs.Multiples.{IsParallel, IsClearedBy}
use Rattle.rob_linear.specs.Beside.{EntersBeside, IsBesidePivot, IsLexNegative, IsLeast, HasNoLeast}
use Rattle.rob_linear.proofs.Bases.Lexical.{lex_cases, lex_not_zero, before_trans}
use Rattle.rob_linear.proofs.Bases.Choices.{first_negative, before_cases, before_not_self}
use Rattle.rob_linear.proofs.RowForms.Multiples.{parallel_refl}
use Rattle.rob_linear.proofs.KeptOut.BesideTurns.{not_both}

pub enters_beside_or_none : (P : Program) (q : ℕ) (rows : ℕ → ℕ → ℤ) → ((col : ℕ) × EntersBeside P q rows col)
    ⊎ ((k : ℕ) → k < P.n + P.m → pos 0 ≤ℤ rows q k)
enters_beside_or_none P q rows =
    elim (first_negative (P.n + P.m) (rows q)) [
      | inl h ↦ inl (h.0, record { inside = h.1; improving = h.2; first = h.3 })
      | inr z ↦ inr z
    ]

-- the rows after the pivot, without a division
abbrev made : ℕ → ℕ → (ℕ → ℕ → ℤ) → ℕ → ℕ → ℤ
made q col rows i =
    cond (eqb i q) (λ k. neg_ℤ (rows q k)) (λ k. (neg_ℤ (rows q col) *ℤ rows i k) -ℤ (neg_ℤ (rows i col) *ℤ rows q k))

made_at : (q col : ℕ) (rows : ℕ → ℕ → ℤ) → made q col rows q ≡ (λ k. neg_ℤ (rows q k))
made_at q col rows = grind (arith, nat_tests)

made_other : (q col : ℕ) (rows : ℕ → ℕ → ℤ) (i : ℕ) → i ≢ q
    → made q col rows i ≡ (λ k. (neg_ℤ (rows q col) *ℤ rows i k) -ℤ (neg_ℤ (rows i col) *ℤ rows q k))
made_other q col rows i d = grind (arith, nat_tests)

pub beside_pivot_exists : (P : Program) (q col : ℕ) (rows : ℕ → ℕ → ℤ) → rows q col <ℤ pos 0 → (rows' : ℕ → ℕ → ℤ)
    × IsBesidePivot P q col rows rows'
beside_pivot_exists P q col rows n = (
  made q col rows,
  record {
    row_at = subst (λ r. IsParallel (suc (right (kept_of P))) r (λ k. neg_ℤ (rows q k))) (sym (made_at q col rows))
        (parallel_refl (suc (right (kept_of P))) (λ k. neg_ℤ (rows q k)));
    row_other =
        λ i il d. subst (λ r. IsClearedBy (suc (right (kept_of P))) col (rows i) (rows q) r)
        (sym (made_other q col rows i d)) record {
          divisor = pos 1;
          p = neg_ℤ (rows q col);
          q = neg_ℤ (rows i col);
          divides = omega (arith, ints);
          positive = omega (arith, ints);
          entries = λ k kl. omega (arith, ints);
          cleared = simp ring (omega (arith, ints));
        };
  },
)

-- negative or not
negative_or_not : (n : ℕ) (f : ℕ → ℤ) → IsLexNegative n f ⊎ ¬ (IsLexNegative n f)
negative_or_not n f =
    elim (lex_cases n f) [
      | inl h ↦ inr (λ g. not_both n f h g)
      | inr (inl h) ↦ inl h
      | inr (inr z) ↦
          inr (λ g. lex_not_zero n (λ k. neg_ℤ (f k)) (λ k kl. let e : f k ≡ pos 0 = z k kl in omega (arith, ints)) g)
    ]

-- of the first n rows
abbrev LeastBelow : System → ℕ → (ℕ → ℕ → ℤ) → ℕ → ℕ → Type 0
LeastBelow S col rows n e =
    (e < n) × (rows e col <ℤ pos 0) × IsLexNegative (suc S.m) (key S (rows e))
    × ((i : ℕ) → i < n → rows i col <ℤ pos 0 → IsLexNegative (suc S.m) (key S (rows i))
    → ¬ (ComesBefore S (rows i) (neg_ℤ (rows i col)) (rows e) (neg_ℤ (rows e col))))

abbrev NoneBelow : System → ℕ → (ℕ → ℕ → ℤ) → ℕ → Type 0
NoneBelow S col rows n = (i : ℕ) → i < n → rows i col <ℤ pos 0 → ¬ (IsLexNegative (suc S.m) (key S (rows i)))

-- row n is out of the question
least_stays : (S : System) (col : ℕ) (rows : ℕ → ℕ → ℤ) (n e : ℕ) → LeastBelow S col rows n e
    → (rows n col <ℤ pos 0 → IsLexNegative (suc S.m) (key S (rows n))
    → ¬ (ComesBefore S (rows n) (neg_ℤ (rows n col)) (rows e) (neg_ℤ (rows e col)))) → LeastBelow S col rows (suc n) e
least_stays S col rows n e h not =
    let l : e < n = h.0 in (
      omega arith,
      h.1,
      h.2,
      (λ i il b g. elim (cases_eq i n) [
        | inl c ↦ (λ w. not (subst (λ v. rows v col <ℤ pos 0) c b)
            (subst (λ v. IsLexNegative (suc S.m) (key S (rows v))) c g)
            (subst (λ v. ComesBefore S (rows v) (neg_ℤ (rows v col)) (rows e) (neg_ℤ (rows e col))) c w))
        | inr d ↦ h.3 i (omega arith) b g
      ]),
    )

none_stays : (S : System) (col : ℕ) (rows : ℕ → ℕ → ℤ) (n : ℕ) → NoneBelow S col rows n
    → (rows n col <ℤ pos 0 → ¬ (IsLexNegative (suc S.m) (key S (rows n)))) → NoneBelow S col rows (suc n)
none_stays S col rows n h not i il b g =
    elim (cases_eq i n) [
      | inl c ↦ not (subst (λ v. rows v col <ℤ pos 0) c b) (subst (λ v. IsLexNegative (suc S.m) (key S (rows v))) c g)
      | inr d ↦ h i (omega arith) b g
    ]

-- row n is the new least one, where it comes before all
least_new : (S : System) (col : ℕ) (rows : ℕ → ℕ → ℤ) (n : ℕ) → rows n col <ℤ pos 0
    → IsLexNegative (suc S.m) (key S (rows n))
    → ((i : ℕ) → i < n → rows i col <ℤ pos 0 → IsLexNegative (suc S.m) (key S (rows i))
    → ¬ (ComesBefore S (rows i) (neg_ℤ (rows i col)) (rows n) (neg_ℤ (rows n col)))) → LeastBelow S col rows (suc n) n
least_new S col rows n b g first = (
  omega arith,
  b,
  g,
  (λ i il bi gi. elim (cases_eq i n) [
    | inl c ↦ (λ w. before_not_self S (rows n) (neg_ℤ (rows n col))
        (subst (λ v. ComesBefore S (rows v) (neg_ℤ (rows v col)) (rows n) (neg_ℤ (rows n col))) c w))
    | inr d ↦ first i (omega arith) bi gi
  ]),
)

least_below : (S : System) (col : ℕ) (rows : ℕ → ℕ → ℤ) (n : ℕ) → ((e : ℕ) × LeastBelow S col rows n e)
    ⊎ NoneBelow S col rows n
least_below S col rows zero = inr (λ i l. absurd (omega arith))
least_below S col rows (suc n) =
    by_lt_z (rows n col) (pos 0) (λ b.
    elim (negative_or_not (suc S.m) (key S (rows n))) [
      | inr not ↦ elim (least_below S col rows n) [
        | inl h ↦ inl (h.0, least_stays S col rows n h.0 h.1 (λ bn g. absurd (not g)))
        | inr z ↦ inr (none_stays S col rows n z (λ bn. not))
      ]
      | inl g ↦ elim (least_below S col rows n) [
        | inr z ↦ inl (n, least_new S col rows n b g (λ i il bi gi. absurd (z i il bi gi)))
        | inl h ↦ elim (before_cases S (rows n) (rows h.0) (neg_ℤ (rows n col)) (neg_ℤ (rows h.0 col))) [
          | inr not ↦ inl (h.0, least_stays S col rows n h.0 h.1 (λ bn gn. not))
          | inl w ↦
              let be : rows h.0 col <ℤ pos 0 = h.1.1 in
              inl (
                n,
                least_new S col rows n b g (λ i il bi gi c. h.1.3 i il bi gi
                    (before_trans S (rows i) (rows n) (rows h.0) (neg_ℤ (rows i col)) (neg_ℤ (rows n col))
                    (neg_ℤ (rows h.0 col)) (omega (arith, ints)) (omega (arith, ints)) (omega (arith, ints)) c w)),
              )
        ]
      ]
    ]) (λ b. elim (least_below S col rows n) [
      | inl h ↦ inl (h.0, least_stays S col rows n h.0 h.1 (λ bn g. absurd (omega (arith, ints))))
      | inr z ↦ inr (none_stays S col rows n z (λ bn. absurd (omega (arith, ints))))
    ])

pub least_or_none : (S : System) (col : ℕ) (rows : ℕ → ℕ → ℤ) → ((e : ℕ) × IsLeast S col rows e) ⊎ HasNoLeast S col rows
least_or_none S col rows =
    elim (least_below S col rows S.m) [
      | inl h ↦ inl (h.0, record { inside = h.1.0; below = h.1.1; negative = h.1.2; first = h.1.3 })
      | inr z ↦ inr z
    ]
