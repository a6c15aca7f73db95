-- The greatest size of a row's first entries; and rows within a limit.
use Rattle.std.proofs.Common.{◌≡◌, ℕ, ◌+◌, ◌<◌, ◌≤◌, max, sym, ◌∙◌, subst, arith, inl, inr, ◌⊎◌, List, length, get_or, nat_abs, pos, Any}
use Rattle.std.proofs.lemmas.Bool.{cases_lt}
use Rattle.std.proofs.lemmas.List.{get_or_default}
use lib.IntN.{ℤ}
use Rattle.rob_rows.specs.PrimitiveParts.{HasWideEntry, IsWithin}

-- a row is within a limit that is over its bound
pub within_up : (low high : ℕ) (row : List ℤ) → low ≤ high → IsWithin low row → IsWithin high row
within_up low high row l h k d kl = let x : nat_abs (get_or row k d) ≤ low = h k d kl in omega arith

-- the greatest size is 0, or that of one of the first entries
abbrev pub IsReached : List ℤ → ℕ → ℕ → Type 0
IsReached row i size = (size ≡ 0) ⊎ ((k : ℕ) × (k < i) × (nat_abs (get_or row k (pos 0)) ≡ size))

pub reached_more : (row : List ℤ) (i size entry : ℕ) → IsReached row i size → entry ≡ nat_abs (get_or row i (pos 0))
    → IsReached row (i + 1) (max entry size)
reached_more row i size entry h e =
    elim (cases_lt size entry) [
      | inl l ↦ inr (i, omega arith, sym e ∙ omega arith)
      | inr l ↦ elim h [
        | inl z ↦ inl (omega arith)
        | inr r ↦ let inside : r.0 < i = r.1 in inr (r.0, omega arith, r.2 ∙ omega arith)
      ]
    ]

pub reached_by : (row : List ℤ) (i size : ℕ) → i ≤ length row → IsReached row i size → 0 < size
    → Any (λ entry. nat_abs entry ≡ size) row
reached_by row i size n h p =
    elim h [
      | inl z ↦ absurd (omega arith)
      | inr r ↦
          let inside : r.0 < i = r.1 in
          let l : r.0 < length row = omega arith in
          (r.0, get_or row r.0 (pos 0), l, get_or_default row r.0 (get_or row r.0 (pos 0)) (pos 0) l, r.2)
    ]

pub wide_by : (row : List ℤ) (size limit : ℕ) → limit < size → Any (λ entry. nat_abs entry ≡ size) row
    → HasWideEntry limit row
wide_by row size limit l a = (a.0, a.1, a.2, a.3, subst (λ t. limit < t) (sym a.4) l)
