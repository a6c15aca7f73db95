-- A row from which another one is taken off, in the places of a list.
use Rattle.std.proofs.Common.{◌≡◌, ◌≢◌, ◌⊎◌, ℕ, zero, suc, ◌+◌, ◌<◌, sym, ap, ◌∙◌, subst, arith, inl, inr, List, length, get_or, set, map}
use Rattle.std.proofs.lemmas.Bool.{cases_eq}
use Rattle.std.proofs.lemmas.Int.{ints}
use lib.IntN.{ℤ, pos, ◌*ℤ◌, ◌-ℤ◌}
use Rattle.rob_algebra.specs.Integer.{mul-zero}
use Rattle.rob_linear.specs.Vectors.{Vector, at}
use Rattle.rob_linear.proofs.Bases.Square.{cases_zero}
use Rattle.rob_entries.specs.Updates.{AreListed}
use Rattle.rob_entries.proofs.MappedRows.{number_here, number_other}

-- whether a number is in a list, up to an index
listed_before : (places : List ℕ) (k n : ℕ) → ((j : ℕ) × (j < n) × (k ≡ get_or places j 0))
    ⊎ ((j : ℕ) → j < n → k ≢ get_or places j 0)
listed_before places k zero = inr (λ j l. absurd (omega arith))
listed_before places k (suc n) =
    elim (listed_before places k n) [
      | inl h ↦ let l : h.0 < n = h.1 in inl (h.0, omega arith, h.2)
      | inr h ↦ elim (cases_eq k (get_or places n 0)) [
        | inl e ↦ inl (n, omega arith, e)
        | inr d ↦ inr (λ j l e. elim (cases_eq j n) [
          | inl s ↦ d (e ∙ ap (λ t. get_or places t 0) s)
          | inr o ↦ h j (omega arith) e
        ])
      ]
    ]

-- the places rise, so one that comes later is another one
pub place_other : (places : List ℕ) (i j : ℕ)
    → ((a b : ℕ) → a < b → b < length places → get_or places a 0 < get_or places b 0) → j < i → i < length places
    → get_or places j 0 ≢ get_or places i 0
place_other places i j rising l il e = let h : get_or places j 0 < get_or places i 0 = rising j i l il in omega arith

pub placed_more : {X : Type 0} (f : X → ℤ) (row : List X) (new : ℕ → ℤ) (places : List ℕ) (i : ℕ) (x : X)
    → ((a b : ℕ) → a < b → b < length places → get_or places a 0 < get_or places b 0) → i < length places
    → get_or places i 0 < length row
    → ((j : ℕ) → j < i → at (map f row) (get_or places j 0) ≡ new (get_or places j 0)) → f x ≡ new (get_or places i 0)
    → (j : ℕ) → j < i + 1 → at (map f (set row (get_or places i 0) x)) (get_or places j 0) ≡ new (get_or places j 0)
placed_more f row new places i x rising il inside h e j l =
    elim (cases_eq j i) [
      | inl s ↦
          ap (λ t. at (map f (set row (get_or places i 0) x)) (get_or places t 0)) s
          ∙ number_here f row (get_or places i 0) x inside ∙ e
          ∙ ap (λ t. new (get_or places t 0)) (sym s)
      | inr d ↦ number_other f row (get_or places i 0) (get_or places j 0) x
          (place_other places i j rising (omega arith) il) ∙ h j (omega arith)
    ]

-- where the other row is 0 nothing is to be written
pub subtracted : (new row other : Vector) (places : List ℕ) (q : ℤ) (width : ℕ)
    → AreListed width other places → (k : ℕ) → k < width
    → ((j : ℕ) → j < length places → new (get_or places j 0)
    ≡ row (get_or places j 0) -ℤ (q *ℤ other (get_or places j 0)))
    → ((x : ℕ) → ((j : ℕ) → j < length places → x ≢ get_or places j 0) → new x ≡ row x)
    → new k ≡ row k -ℤ (q *ℤ other k)
subtracted new row other places q width listed k l done same =
    elim (cases_zero (other k)) [
      | inr some ↦
          let j = listed.all k l some in
          subst (λ x. new x ≡ row x -ℤ (q *ℤ other x)) (sym j.2) (done j.0 j.1)
      | inl none ↦
          elim (listed_before places k (length places)) [
            | inl j ↦ subst (λ x. new x ≡ row x -ℤ (q *ℤ other x)) (sym j.2) (done j.0 j.1)
            | inr apart ↦
                let e : new k ≡ row k = same k apart in
                let z : q *ℤ other k ≡ pos 0 = ap (λ t. q *ℤ t) none ∙ mul-zero q in
                omega (arith, ints)
          ]
    ]
