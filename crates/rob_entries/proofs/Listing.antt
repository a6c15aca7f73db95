-- The places where a row is not 0, listed one after another.
use Rattle.std.proofs.Common.{◌≡◌, ◌≢◌, ◌⊎◌, ℕ, ◌+◌, ◌<◌, ◌≤◌, max, sym, ap, ◌∙◌, subst, arith, inl, inr, List, length, get_or, set, take, nat_abs, Any}
use Rattle.std.proofs.lemmas.Bool.{cases_eq, cases_lt}
use Rattle.std.proofs.lemmas.List.{get_or_default, get_or-take, length-take, get_or-set_same, get_or-set_other}
use lib.IntN.{ℤ, pos}
use Rattle.rob_linear.specs.Vectors.{Vector, at}
use Rattle.rob_linear.proofs.Bases.Square.{cases_zero}
use Rattle.rob_rows.specs.PrimitiveParts.{IsWithin}
use Rattle.rob_entries.specs.Updates.{AreListed}

-- of the places before k those where the row is not 0 stand at the front of the list
pub record IsListedTo (row : Vector) (k : ℕ) (places : List ℕ) (listed : ℕ) : Type 0 where
  pub few : listed ≤ k
  pub inside : (j : ℕ) → j < listed → get_or places j 0 < k
  pub rising : (i j : ℕ) → i < j → j < listed → get_or places i 0 < get_or places j 0
  pub all : (i : ℕ) → i < k → row i ≢ pos 0 → (j : ℕ) × (j < listed) × (i ≡ get_or places j 0)

module _ (row : Vector) (k : ℕ) (places : List ℕ) (listed : ℕ) (h : IsListedTo row k places listed) where
  -- a place more
  here : listed < length places → get_or (set places listed k) listed 0 ≡ k
  here l = get_or-set_same places listed k 0 l

  before : (j : ℕ) → j < listed → get_or (set places listed k) j 0 ≡ get_or places j 0
  before j l = get_or-set_other places listed j k 0 (λ e. absurd (omega arith))

  -- a place where the row is 0 is written behind the list
  pub skip_place : row k ≡ pos 0 → IsListedTo row (k + 1) (set places listed k) listed
  skip_place z = record {
    few = let l : listed ≤ k = h.few in omega arith;
    inside = λ j jl.
        let s : get_or (set places listed k) j 0 ≡ get_or places j 0 = before j jl in
        let l : get_or places j 0 < k = h.inside j jl in
        omega arith;
    rising = λ i j il jl.
        let s : get_or (set places listed k) i 0 ≡ get_or places i 0 = before i (omega arith) in
        let t : get_or (set places listed k) j 0 ≡ get_or places j 0 = before j jl in
        let l : get_or places i 0 < get_or places j 0 = h.rising i j il jl in
        omega arith;
    all = λ i il some. elim (cases_eq i k) [
      | inl e ↦ absurd (some (ap row e ∙ z))
      | inr d ↦
          let a = h.all i (omega arith) some in (a.0, a.1, a.2 ∙ sym (before a.0 a.1))
    ];
  }

  pub list_place : listed < length places → IsListedTo row (k + 1) (set places listed k) (listed + 1)
  list_place room = record {
    few = let l : listed ≤ k = h.few in omega arith;
    inside = λ j jl. elim (cases_eq j listed) [
      | inl e ↦ let s : get_or (set places listed k) j 0 ≡ k =
          ap (λ t. get_or (set places listed k) t 0) e ∙ here room in omega arith
      | inr d ↦
          let s : get_or (set places listed k) j 0 ≡ get_or places j 0 = before j (omega arith) in
          let l : get_or places j 0 < k = h.inside j (omega arith) in
          omega arith
    ];
    rising = λ i j il jl. let s : get_or (set places listed k) i 0 ≡ get_or places i 0 = before i (omega arith) in
        elim (cases_eq j listed) [
          | inl e ↦
              let t : get_or (set places listed k) j 0 ≡ k = ap (λ t. get_or (set places listed k) t 0) e ∙ here room in
              let l : get_or places i 0 < k = h.inside i (omega arith) in
              omega arith
          | inr d ↦
              let t : get_or (set places listed k) j 0 ≡ get_or places j 0 = before j (omega arith) in
              let l : get_or places i 0 < get_or places j 0 = h.rising i j il (omega arith) in
              omega arith
        ];
    all = λ i il some. elim (cases_eq i k) [
      | inl e ↦ (listed, omega arith, e ∙ sym (here room))
      | inr d ↦
          let a = h.all i (omega arith) some in
          let l : a.0 < listed = a.1 in
          (a.0, omega arith, a.2 ∙ sym (before a.0 l))
    ];
  }

-- all of them
pub all_listed : (width : ℕ) (row : Vector) (places : List ℕ) (listed : ℕ) → listed ≤ length places
    → IsListedTo row width places listed → AreListed width row (take listed places)
all_listed width row places listed few h =
    let n : length (take listed places) ≡ listed = omega (arith, length-take listed places) in
    let at_front : (j : ℕ) → j < listed → get_or (take listed places) j 0 ≡ get_or places j 0 =
    λ j l. get_or-take listed places j 0 l in
    record {
      inside = λ j jl. subst (λ t. t < width) (sym (at_front j (omega arith))) (h.inside j (omega arith));
      rising = λ i j il jl.
          subst (λ t. t < get_or (take listed places) j 0) (sym (at_front i (omega arith)))
          (subst (λ t. get_or places i 0 < t) (sym (at_front j (omega arith))) (h.rising i j il (omega arith)));
      all = λ i il some. let a = h.all i il some in (a.0, omega arith, a.2 ∙ sym (at_front a.0 a.1));
    }

-- ---- the sizes of listed numbers
-- what the listed ones are within, all are within
pub listed_within : (width most : ℕ) (row : List ℤ) (places : List ℕ) → AreListed width (at row) places
    → length row ≡ width → ((j : ℕ) → j < length places → nat_abs (at row (get_or places j 0)) ≤ most)
    → IsWithin most row
listed_within width most row places listed size h k d kl =
    let inside : k < width = omega arith in
    subst (λ z. nat_abs z ≤ most) (sym (get_or_default row k d (pos 0) kl))
    (elim (cases_zero (at row k)) [
      | inl z ↦ subst (λ t. nat_abs t ≤ most) (sym z) (omega arith)
      | inr some ↦
          let a = listed.all k inside some in
          subst (λ p. nat_abs (at row p) ≤ most) (sym a.2) (h a.0 a.1)
    ])

-- 0, or the size of one of them
abbrev pub IsSizeOf : List ℤ → ℕ → Type 0
IsSizeOf row size = (size ≡ 0) ⊎ ((k : ℕ) × (k < length row) × (nat_abs (at row k) ≡ size))

pub size_more : (row : List ℤ) (size k entry : ℕ) → k < length row → entry ≡ nat_abs (at row k) → IsSizeOf row size
    → IsSizeOf row (max entry size)
size_more row size k entry kl e h =
    elim (cases_lt size entry) [
      | inl l ↦ inr (k, kl, sym e ∙ omega arith)
      | inr l ↦ elim h [
        | inl z ↦ inl (omega arith)
        | inr r ↦ inr (r.0, r.1, r.2 ∙ omega arith)
      ]
    ]

pub size_told : (row : List ℤ) (size : ℕ) → IsSizeOf row size → 0 < size → Any (λ entry. nat_abs entry ≡ size) row
size_told row size h p =
    elim h [
      | inl z ↦ absurd (omega arith)
      | inr r ↦
          (r.0, get_or row r.0 (pos 0), r.1, get_or_default row r.0 (get_or row r.0 (pos 0)) (pos 0) r.1, r.2)
    ]
