-- A row that is read by the places of its columns, and the basic columns of a list.
use Rattle.std.proofs.Common.{◌≡◌, ◌≢◌, ℕ, suc, ◌+◌, ◌<◌, ◌≤◌, sym, ap, ◌∙◌, arith, inl, inr, List, length}
use Rattle.std.proofs.lemmas.Bool.{cases_eq, cases_lt}
use Rattle.std.proofs.lemmas.Bool.Decides.{nat_tests}
use lib.IntN.{ℤ, pos}
use Rattle.rob_linear.specs.Vectors.{Vector, Columns}
use Rattle.rob_simplex.specs.Dictionaries.{read_row, columns_of, basic_columns}

pub read_near : (w : ℕ) (places : Columns) (i : ℕ) (r : Vector) (c : ℕ) → places c < w
    → read_row w places i r c ≡ r (places c)
read_near w places i r c l = grind (arith, nat_tests)

pub read_own : (w : ℕ) (places : Columns) (i : ℕ) (r : Vector) (c : ℕ) → places c ≡ w + i
    → read_row w places i r c ≡ r w
read_own w places i r c e = grind (arith, nat_tests)

pub read_none : (w : ℕ) (places : Columns) (i : ℕ) (r : Vector) (c : ℕ) → w ≤ places c → places c ≢ w + i
    → read_row w places i r c ≡ pos 0
read_none w places i r c l d = grind (arith, nat_tests)

-- rows with the same numbers
pub read_same : (w : ℕ) (places : Columns) (i : ℕ) (r r' : Vector) → ((k : ℕ) → k ≤ w → r' k ≡ r k) → (c : ℕ)
    → read_row w places i r' c ≡ read_row w places i r c
read_same w places i r r' same c = elim (cases_lt (places c) w) [
  | inl l ↦ read_near w places i r' c l ∙ same (places c) (omega arith) ∙ sym (read_near w places i r c l)
  | inr l ↦ elim (cases_eq (places c) (w + i)) [
    | inl s ↦ read_own w places i r' c s ∙ same w (omega arith) ∙ sym (read_own w places i r c s)
    | inr d ↦ read_none w places i r' c l d ∙ sym (read_none w places i r c l d)
  ]
]

-- an own number of another row
pub read_zero : (w : ℕ) (places : ℕ → ℕ) (j i : ℕ) (r : ℕ → ℤ) (c : ℕ) → places c ≡ w + j → j ≢ i
    → read_row w places i r c ≡ pos 0
read_zero w places j i r c e d = grind (arith, nat_tests)

-- also by places that agree
pub read_ext : (w i : ℕ) (places' places : ℕ → ℕ) (r' r : ℕ → ℤ) (c : ℕ) → places' c ≡ places c
    → ((k : ℕ) → k < suc w → r' k ≡ r k) → read_row w places' i r' c ≡ read_row w places i r c
read_ext w i places' places r' r c e same = elim (cases_lt (places c) w) [
  | inl l ↦ read_near w places' i r' c (omega arith) ∙ ap r' e ∙ same (places c) (omega arith)
      ∙ sym (read_near w places i r c l)
  | inr l ↦ elim (cases_eq (places c) (w + i)) [
    | inl s ↦ read_own w places' i r' c (e ∙ s) ∙ same w (omega arith) ∙ sym (read_own w places i r c s)
    | inr d ↦ read_none w places' i r' c (omega arith) (λ x. d (sym e ∙ x)) ∙ sym (read_none w places i r c l d)
  ]
]

-- ---- basic columns
pub basic_low : (n : ℕ) (basis : List ℕ) (i : ℕ) → i < length basis → basic_columns n basis i ≡ columns_of basis i
basic_low n basis i l = grind (arith, nat_tests)

pub basic_high : (n : ℕ) (basis : List ℕ) (i : ℕ) → length basis ≤ i → basic_columns n basis i ≡ suc (n + length basis)
basic_high n basis i l = grind (arith, nat_tests)
