-- The numbers of a condensed row are those of the whole row: factors, divisors and sizes.
use Rattle.std.proofs.Common.{◌≡◌, ℕ, zero, suc, ◌+◌, ◌<◌, ◌≤◌, sym, ap, ◌∙◌, subst, arith, inl, inr}
use Rattle.std.proofs.lemmas.Int.{ints}
use Rattle.std.proofs.lemmas.Bool.{cases_eq, cases_lt}
use Rattle.std.proofs.lemmas.Nat.Gcd.{dvd-zero}
use Rattle.std.specs.Int.RustNames.{unsigned_abs}
use Rattle.std.specs.Int.{◌∣◌}
use lib.IntN.{ℤ, pos, ◌*ℤ◌}
use Rattle.rob_algebra.specs.Integer.{mul-zero}
use Rattle.rob_linear.specs.Systems.{right, IsPrimitive}
use Rattle.rob_linear.specs.Programs.{Program, system_of, auxiliary_place, kept_of}
use Rattle.rob_linear.specs.CondensedRows.{entry_of, IsPlaced}
use Rattle.rob_linear.proofs.BasisPaths.Phases.{place_low, place_high}
use Rattle.rob_linear.proofs.RowForms.CondensedRows.{entry_near, entry_own, entry_zero}

-- what holds of 0, of the row's own entry and of the numbers at its places holds of each entry
pub entry_is : (m w n : ℕ) (at near basis : ℕ → ℕ) (table : ℕ → ℕ → ℤ) (own : ℕ → ℤ) (i : ℕ) (Q : ℤ → Type 0)
    → IsPlaced m w n at near basis → Q (pos 0) → Q (own i) → ((k : ℕ) → k < w → Q (table i k)) → (c : ℕ) → c < n
    → Q (entry_of w at table own i c)
entry_is m w n at near basis table own i Q h z o t c cl =
    elim (cases_lt (at c) w) [
      | inl a ↦ subst Q (sym (entry_near w at table own i c a)) (t (at c) a)
      | inr a ↦
          let b : (j : ℕ) × (j ≤ m) × (at c ≡ w + j) × (basis j ≡ c) = h.basic_column c cl (omega arith) in
          elim (cases_eq b.0 i) [
            | inl e ↦ subst Q (sym (entry_own w at table own i c (b.2 ∙ ap (λ v. w + v) e))) o
            | inr d ↦ subst Q (sym (entry_zero w at table own i b.0 c b.2 d)) z
          ]
    ]

-- a row negated, divided, or kept
pub entry_times : (m w n : ℕ) (at near basis : ℕ → ℕ) (table table' : ℕ → ℕ → ℤ) (own own' : ℕ → ℤ) (i : ℕ) (a b : ℤ)
    → IsPlaced m w n at near basis → ((k : ℕ) → k < w → a *ℤ table' i k ≡ b *ℤ table i k) → a *ℤ own' i ≡ b *ℤ own i
    → (c : ℕ) → c < n → a *ℤ entry_of w at table' own' i c ≡ b *ℤ entry_of w at table own i c
entry_times m w n at near basis table table' own own' i a b h t o c cl =
    elim (cases_lt (at c) w) [
      | inl l ↦ ap (λ v. a *ℤ v) (entry_near w at table' own' i c l) ∙ t (at c) l
          ∙ ap (λ v. b *ℤ v) (sym (entry_near w at table own i c l))
      | inr l ↦
          let j : (j : ℕ) × (j ≤ m) × (at c ≡ w + j) × (basis j ≡ c) = h.basic_column c cl (omega arith) in
          elim (cases_eq j.0 i) [
            | inl e ↦
                let f : at c ≡ w + i = j.2 ∙ ap (λ v. w + v) e in
                ap (λ v. a *ℤ v) (entry_own w at table' own' i c f) ∙ o
                ∙ ap (λ v. b *ℤ v) (sym (entry_own w at table own i c f))
            | inr d ↦
                ap (λ v. a *ℤ v) (entry_zero w at table' own' i j.0 c j.2 d) ∙ mul-zero a
                ∙ sym (ap (λ v. b *ℤ v) (entry_zero w at table own i j.0 c j.2 d) ∙ mul-zero b)
          ]
    ]

-- no common divisor of the numbers, no common divisor of the entries
pub entry_primitive : (m w n : ℕ) (at near basis : ℕ → ℕ) (table : ℕ → ℕ → ℤ) (own : ℕ → ℤ) (i : ℕ)
    → IsPlaced m w n at near basis → i ≤ m
    → ((d : ℕ) → ((k : ℕ) → k < w → d ∣ unsigned_abs (table i k)) → d ∣ unsigned_abs (own i) → d ≡ 1)
    → IsPrimitive n (entry_of w at table own i)
entry_primitive m w n at near basis table own i h il p d g =
    p d (λ k kl.
    let a : at (near k) ≡ k = h.near_at k kl in
    subst (λ v. d ∣ unsigned_abs v) (entry_near w at table own i (near k) (subst (λ v. v < w) (sym a) kl)
    ∙ ap (table i) a) (g (near k) (h.near_in k kl)))
    (subst (λ v. d ∣ unsigned_abs v) (entry_own w at table own i (basis i) (h.basic_at i il))
    (g (basis i) (h.basic_in i il)))

-- numbers within a limit, entries within it
pub entry_within : (m w n : ℕ) (at near basis : ℕ → ℕ) (table : ℕ → ℕ → ℤ) (own : ℕ → ℤ) (i limit : ℕ)
    → IsPlaced m w n at near basis → ((k : ℕ) → k < w → unsigned_abs (table i k) ≤ limit) → unsigned_abs (own i) ≤ limit
    → (c : ℕ) → c < n → unsigned_abs (entry_of w at table own i c) ≤ limit
entry_within m w n at near basis table own i limit h t o =
    entry_is m w n at near basis table own i (λ v. unsigned_abs v ≤ limit) h (omega (arith, ints)) o t

-- an entry of 0 in the auxiliary column is not missed
pub primitive_without : (P : Program) (r : ℕ → ℤ) → r (P.n + P.m) ≡ pos 0 → IsPrimitive (suc (right (kept_of P))) r
    → IsPrimitive (suc (right (system_of P))) (λ k. r (auxiliary_place P k))
primitive_without P r z p d g =
    p d (λ c cl. elim (cases_eq c (P.n + P.m)) [
      | inl e ↦ subst (λ v. d ∣ unsigned_abs v) (sym (ap r e ∙ z)) (dvd-zero d)
      | inr f ↦ elim (cases_lt c (P.n + P.m)) [
        | inl l ↦ subst (λ v. d ∣ unsigned_abs (r v)) (place_low P c l) (g c (omega arith))
        | inr l ↦ at_high c (omega arith) cl
      ]
    ])
  where
    at_high : (c : ℕ) → P.n + P.m < c → c < suc (suc (suc (P.n + P.m))) → d ∣ unsigned_abs (r c)
    at_high (suc c) l u = subst (λ v. d ∣ unsigned_abs (r v)) (place_high P c (omega arith)) (g c (omega arith))
    at_high zero l u = absurd (omega arith)
