-- Where a condensed row is negative, and the condensed rows of the start.
use Rattle.std.proofs.Common.{◌≡◌, ℕ, suc, ◌+◌, ◌-◌, ◌<◌, ◌≤◌, sym, ap, ◌∙◌, subst, arith, inl, inr}
use Rattle.std.proofs.lemmas.Int.{ints}
use Rattle.std.proofs.lemmas.Bool.{cases_eq, cases_lt}
use Rattle.std.proofs.lemmas.Bool.Decides.{nat_tests}
use lib.IntN.{ℤ, pos}
use lib.Signed.{◌<ℤ◌, ◌≤ℤ◌}
use Rattle.rob_linear.specs.Programs.{Program, auxiliary_tag, kept_row}
use Rattle.rob_linear.specs.CondensedRows.{entry_of, IsPlaced, start_places, start_at, start_near}
use Rattle.rob_linear.proofs.LinearPrograms.Programs.{auxiliary_tag-slack, auxiliary_tag-objective}
use Rattle.rob_linear.proofs.BasisPaths.TwoPhases.{kept_one, kept_zero}
use Rattle.rob_linear.proofs.RowForms.CondensedRows.{entry_near, entry_own, entry_zero}

-- no entry before column `before` is negative where none is at the places of these columns
pub condensed_none : (m w n : ℕ) (at near basis : ℕ → ℕ) (table : ℕ → ℕ → ℤ) (own : ℕ → ℤ) (i before : ℕ)
    → IsPlaced m w n at near basis → ((k : ℕ) → k < w → near k < before → pos 0 ≤ℤ table i k) → pos 0 ≤ℤ own i → (c : ℕ)
    → c < n → c < before → pos 0 ≤ℤ entry_of w at table own i c
condensed_none m w n at near basis table own i before h none o c cl cb =
    elim (cases_lt (at c) w) [
      | inl a ↦ subst (λ v. pos 0 ≤ℤ v) (sym (entry_near w at table own i c a))
          (none (at c) a (subst (λ v. v < before) (sym (h.near_column c cl a)) cb))
      | inr a ↦
          let b : (j : ℕ) × (j ≤ m) × (at c ≡ w + j) × (basis j ≡ c) = h.basic_column c cl (omega arith) in
          elim (cases_eq b.0 i) [
            | inl e ↦ subst (λ v. pos 0 ≤ℤ v) (sym (entry_own w at table own i c (b.2 ∙ ap (λ v. w + v) e))) o
            | inr d ↦ subst (λ v. pos 0 ≤ℤ v) (sym (entry_zero w at table own i b.0 c b.2 d)) (omega (arith, ints))
          ]
    ]

-- the first negative column stands at the negative place whose column comes first
pub condensed_first : (m w n : ℕ) (at near basis : ℕ → ℕ) (table : ℕ → ℕ → ℤ) (own : ℕ → ℤ) (i k : ℕ)
    → IsPlaced m w n at near basis → k < w → table i k <ℤ pos 0
    → ((j : ℕ) → j < w → near j < near k → pos 0 ≤ℤ table i j) → pos 0 ≤ℤ own i
    → (entry_of w at table own i (near k) <ℤ pos 0) × ((c : ℕ) → c < near k → pos 0 ≤ℤ entry_of w at table own i c)
condensed_first m w n at near basis table own i k h kl neg first o =
    let nk : near k < n = h.near_in k kl in
    let a : at (near k) ≡ k = h.near_at k kl in (
      subst (λ v. v <ℤ pos 0)
          (sym (entry_near w at table own i (near k) (subst (λ v. v < w) (sym a) kl) ∙ ap (table i) a)) neg,
      (λ c cl. condensed_none m w n at near basis table own i (near k) h first o c (omega arith) cl),
    )

-- ---- the start
start_low : (P : Program) (c : ℕ) → c < P.n → start_at P c ≡ c
start_low P c l = grind (arith, nat_tests)

start_slack : (P : Program) (c : ℕ) → P.n ≤ c → c < P.n + P.m → start_at P c ≡ start_places P + (c - P.n)
start_slack P c l u = grind (arith, nat_tests)

start_auxiliary : (P : Program) → start_at P (P.n + P.m) ≡ P.n
start_auxiliary P = grind (arith, nat_tests)

start_objective : (P : Program) → start_at P (suc (P.n + P.m)) ≡ start_places P + P.m
start_objective P = grind (arith, nat_tests)

start_right : (P : Program) → start_at P (suc (suc (P.n + P.m))) ≡ suc P.n
start_right P = grind (arith, nat_tests)

near_low : (P : Program) (k : ℕ) → k < P.n → start_near P k ≡ k
near_low P k l = grind (arith, nat_tests)

near_auxiliary : (P : Program) → start_near P P.n ≡ P.n + P.m
near_auxiliary P = grind (arith, nat_tests)

near_right : (P : Program) → start_near P (suc P.n) ≡ suc (suc (P.n + P.m))
near_right P = grind (arith, nat_tests)

-- the columns, one kind after the other
module _ (P : Program) (Q : ℕ → Type 0) (low : (c : ℕ) → c < P.n → Q c) (slack : (i : ℕ) → i < P.m → Q (P.n + i))
    (auxiliary : Q (P.n + P.m)) (objective : Q (suc (P.n + P.m))) (right : Q (suc (suc (P.n + P.m)))) where
  column_cases : (c : ℕ) → c < suc (suc (suc (P.n + P.m))) → Q c
  column_cases c l = elim (cases_lt c P.n) [
    | inl a ↦ low c a
    | inr a ↦ elim (cases_lt c (P.n + P.m)) [
      | inl b ↦ let e : P.n + (c - P.n) ≡ c = omega arith in subst Q e (slack (c - P.n) (omega arith))
      | inr b ↦ elim (cases_eq c (P.n + P.m)) [
        | inl e ↦ subst Q (sym e) auxiliary
        | inr d ↦ elim (cases_eq c (suc (P.n + P.m))) [
          | inl e ↦ subst Q (sym e) objective
          | inr f ↦ let e : suc (suc (P.n + P.m)) ≡ c = omega arith in subst Q e right
        ]
      ]
    ]
  ]

slack_at : (P : Program) (i : ℕ) → i < P.m → start_at P (P.n + i) ≡ start_places P + i
slack_at P i l = let e : P.n + i - P.n ≡ i = omega arith in
    start_slack P (P.n + i) (omega arith) (omega arith) ∙ ap (λ v. start_places P + v) e

pub start_placed : (P : Program)
    → IsPlaced P.m (start_places P) (suc (suc (suc (P.n + P.m)))) (start_at P) (start_near P) (auxiliary_tag P)
start_placed P = record {
  near_in = λ k kl. elim (cases_lt k P.n) [
    | inl a ↦ let e : start_near P k ≡ k = near_low P k a in omega arith
    | inr a ↦ elim (cases_eq k P.n) [
      | inl c ↦ let e : start_near P k ≡ P.n + P.m = ap (start_near P) c ∙ near_auxiliary P in omega arith
      | inr d ↦ let c : k ≡ suc P.n = omega arith in
          let e : start_near P k ≡ suc (suc (P.n + P.m)) = ap (start_near P) c ∙ near_right P in omega arith
    ]
  ];
  near_at = λ k kl. elim (cases_lt k P.n) [
    | inl a ↦ ap (start_at P) (near_low P k a) ∙ start_low P k a
    | inr a ↦ elim (cases_eq k P.n) [
      | inl c ↦ ap (start_at P) (ap (start_near P) c ∙ near_auxiliary P) ∙ start_auxiliary P ∙ sym c
      | inr d ↦ let c : k ≡ suc P.n = omega arith in
          ap (start_at P) (ap (start_near P) c ∙ near_right P) ∙ start_right P ∙ sym c
    ]
  ];
  basic_in = λ i il. elim (cases_eq i P.m) [
    | inl c ↦ let e : auxiliary_tag P i ≡ suc (P.n + P.m) =
        ap (auxiliary_tag P) c ∙ auxiliary_tag-objective P in omega arith
    | inr d ↦ let e : auxiliary_tag P i ≡ P.n + i = auxiliary_tag-slack P i (omega arith) in omega arith
  ];
  basic_at = λ i il. elim (cases_eq i P.m) [
    | inl c ↦ ap (start_at P) (ap (auxiliary_tag P) c ∙ auxiliary_tag-objective P) ∙ start_objective P
        ∙ ap (λ v. start_places P + v) (sym c)
    | inr d ↦ ap (start_at P) (auxiliary_tag-slack P i (omega arith)) ∙ slack_at P i (omega arith)
  ];
  near_column =
      column_cases P (λ c. start_at P c < start_places P → start_near P (start_at P c) ≡ c)
      (λ c cl l. ap (start_near P) (start_low P c cl) ∙ near_low P c cl)
      (λ i il l. let e : start_at P (P.n + i) ≡ start_places P + i = slack_at P i il in absurd (omega arith))
      (λ l. ap (start_near P) (start_auxiliary P) ∙ near_auxiliary P)
      (λ l. let e : start_at P (suc (P.n + P.m)) ≡ start_places P + P.m = start_objective P in absurd (omega arith))
      (λ l. ap (start_near P) (start_right P) ∙ near_right P);
  basic_column =
      column_cases P (λ c. start_places P ≤ start_at P c → (i : ℕ) × (i ≤ P.m) × (start_at P c ≡ start_places P + i)
      × (auxiliary_tag P i ≡ c))
      (λ c cl l. let e : start_at P c ≡ c = start_low P c cl in absurd (omega arith))
      (λ i il l. (i, omega arith, slack_at P i il, auxiliary_tag-slack P i il))
      (λ l. let e : start_at P (P.n + P.m) ≡ P.n = start_auxiliary P in absurd (omega arith))
      (λ l. (P.m, omega arith, start_objective P, auxiliary_tag-objective P))
      (λ l. let e : start_at P (suc (suc (P.n + P.m))) ≡ suc P.n = start_right P in absurd (omega arith));
}

pub start_entries : (P : Program) (table : ℕ → ℕ → ℤ) (own : ℕ → ℤ) (i c : ℕ) → i ≤ P.m
    → c < suc (suc (suc (P.n + P.m))) → (start_at P c < start_places P → table i (start_at P c) ≡ kept_row P i c)
    → own i ≡ pos 1 → entry_of (start_places P) (start_at P) table own i c ≡ kept_row P i c
start_entries P table own i c il cl t o =
    let h : IsPlaced P.m (start_places P) (suc (suc (suc (P.n + P.m)))) (start_at P) (start_near P) (auxiliary_tag P) =
    start_placed P in
    elim (cases_lt (start_at P c) (start_places P)) [
      | inl a ↦ entry_near (start_places P) (start_at P) table own i c a ∙ t a
      | inr a ↦
          let b : (j : ℕ) × (j ≤ P.m) × (start_at P c ≡ start_places P + j) × (auxiliary_tag P j ≡ c) =
          h.basic_column c cl (omega arith) in
          elim (cases_eq b.0 i) [
            | inl e ↦
                entry_own (start_places P) (start_at P) table own i c (b.2 ∙ ap (λ v. start_places P + v) e) ∙ o
                ∙ sym (kept_one P i il) ∙ ap (kept_row P i) (ap (auxiliary_tag P) (sym e) ∙ b.3)
            | inr d ↦
                entry_zero (start_places P) (start_at P) table own i b.0 c b.2 d
                ∙ sym (kept_zero P i b.0 il b.1 d) ∙ ap (kept_row P i) b.3
          ]
    ]
