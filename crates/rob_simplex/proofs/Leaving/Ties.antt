-- Where rows tie: the slack columns that are not basic, listed, and what they decide of two rows.
use Rattle.std.proofs.Common.{◌≡◌, ℕ, ◌+◌, ◌<◌, ◌≤◌, ap, ◌∙◌, arith, inl, inr, List, length, get_or, take, cond, nat_lt}
use Rattle.std.proofs.lemmas.Bool.{cases_eq, cases_lt}
use Rattle.std.proofs.lemmas.Bool.Decides.{nat_tests}
use Rattle.std.proofs.lemmas.Int.{ints}
use lib.IntN.{ℤ, pos}
use Rattle.rob_entries.proofs.Listing.{IsListedTo, all_listed}
use Rattle.rob_simplex.specs.Dictionaries.{Table, positions, columns_of, rows_of}
use Rattle.rob_simplex.specs.FreeSlacks.{AreFree, lead}
use Rattle.rob_simplex.proofs.Leaving.RatioLemmas.{both_zero}

-- ---- the list
-- not 0 at the slack columns that are not basic
abbrev pub free_row : Table → ℕ → ℤ
free_row t k = cond (nat_lt (columns_of t.places (t.columns + k)) (t.columns + 3)) (pos 1) (pos 0)

free_some : (t : Table) (k : ℕ) → columns_of t.places (t.columns + k) < t.columns + 3 → free_row t k ≡ pos 1
free_some t k l = grind (arith, nat_tests)

pub free_zero : (t : Table) (k : ℕ) → t.columns + 3 ≤ columns_of t.places (t.columns + k) → free_row t k ≡ pos 0
free_zero t k l = grind (arith, nat_tests)

pub of_listed : (t : Table) (seen listed : ℕ) (order : List ℕ) → seen ≤ positions t → listed ≤ length order
    → IsListedTo (free_row t) seen order listed → AreFree t seen (take listed order)
of_listed t seen listed order few room h =
    let a = all_listed seen (free_row t) order listed room h in
    record {
      within = few;
      inside = a.inside;
      rising = a.rising;
      all = λ k kl free. a.all k kl (λ z. let o : free_row t k ≡ pos 1 = free_some t k free in omega (arith, ints));
    }

-- ---- two rows
-- what a slack column says of two rows
abbrev pub tie : Table → ℕ → ℕ → ℤ → ℤ → ℕ → ℤ
tie t i e p q k = lead t i p e q (t.columns + k)

-- of the first `count` slack columns that are listed, those before `before` don't decide
abbrev pub Tied : Table → ℕ → ℕ → ℤ → ℤ → ℕ → List ℕ → ℕ → Type 0
Tied t i e p q before slacks count =
    (s : ℕ) → s < count → get_or slacks s 0 < before
    → tie t i e p q (get_or slacks s 0) ≡ pos 0

pub tied_more : (t : Table) (i e : ℕ) (p q : ℤ) (before : ℕ) (slacks : List ℕ) (count : ℕ)
    → Tied t i e p q before slacks count
    → (get_or slacks count 0 < before → tie t i e p q (get_or slacks count 0) ≡ pos 0)
    → Tied t i e p q before slacks (count + 1)
tied_more t i e p q before slacks count h one s sl b = elim (cases_eq s count) [
  | inr d ↦ h s (omega arith) b
  | inl c ↦
      let same : get_or slacks s 0 ≡ get_or slacks count 0 = ap (λ x. get_or slacks x 0) c in
      ap (tie t i e p q) same ∙ one (omega arith)
]

-- the own columns of both rows don't come before `before`: then what is listed decides
module _ (t : Table) (i e : ℕ) (p q : ℤ) (seen before : ℕ) (slacks : List ℕ) (free : AreFree t seen slacks)
    (low : before ≤ seen)
    (zero_i : (k : ℕ) → k < before → t.columns + 3 ≤ columns_of t.places (t.columns + k)
    → rows_of t i (t.columns + k) ≡ pos 0)
    (zero_e : (k : ℕ) → k < before → t.columns + 3 ≤ columns_of t.places (t.columns + k)
    → rows_of t e (t.columns + k) ≡ pos 0) where
  tied_to : (count k : ℕ) → k ≤ before → ((s : ℕ) → s < length slacks → get_or slacks s 0 < k → s < count)
      → Tied t i e p q before slacks count → (j : ℕ) → j < k → tie t i e p q j ≡ pos 0
  tied_to count k kb inside tied j l = elim (cases_lt (columns_of t.places (t.columns + j)) (t.columns + 3)) [
    | inr b ↦
        both_zero (rows_of t i (t.columns + j)) p (rows_of t e (t.columns + j)) q (zero_i j (omega arith) b)
        (zero_e j (omega arith) b)
    | inl f ↦
        let s = free.all j (omega arith) f in
        let is : j ≡ get_or slacks s.0 0 = s.2 in
        ap (tie t i e p q) is ∙ tied s.0 (inside s.0 s.1 (omega arith)) (omega arith)
  ]

  pub tied_all : (count : ℕ) → count ≡ length slacks → Tied t i e p q before slacks count → (j : ℕ) → j < before
      → tie t i e p q j ≡ pos 0
  tied_all count end tied = tied_to count before (omega arith) (λ s sl l. omega arith) tied

  -- those listed behind a column come later still
  pub tied_below : (count k : ℕ) → count < length slacks → k ≤ before → k ≤ get_or slacks count 0
      → Tied t i e p q before slacks count → (j : ℕ) → j < k → tie t i e p q j ≡ pos 0
  tied_below count k there kb past tied =
      tied_to count k kb
      (λ s sl l. elim (cases_lt s count) [
        | inl c ↦ c
        | inr c ↦ elim (cases_eq s count) [
          | inl same ↦
              absurd (let x : get_or slacks s 0 ≡ get_or slacks count 0 = ap (λ y. get_or slacks y 0) same in
              omega arith)
          | inr d ↦
              absurd (let r : get_or slacks count 0 < get_or slacks s 0 = free.rising count s (omega arith) sl in
              omega arith)
        ]
      ])
      tied
