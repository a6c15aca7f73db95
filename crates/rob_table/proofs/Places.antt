-- Rows within a table, and numbers read by an index.
use Rattle.std.proofs.Common.{◌≡◌, ◌≢◌, ℕ, suc, ◌+◌, ◌*◌, ◌<◌, ◌≤◌, ◌∙◌, ap, arith, inl, inr, ◌⊎◌, List, length, set, get_or}
use Rattle.std.proofs.Math.Nat.{mul-le-mul_right}
use Rattle.std.proofs.lemmas.List.{get_or_default, get_or-set_same, get_or-set_other}
use Rattle.std.proofs.lemmas.Bool.{cases_order}
use lib.IntN.{ℤ, pos}
use Rattle.rob_table.specs.Tables.{row_at}

-- row i lies within the table
pub row_within : (count width i : ℕ) → i < count → i * width + width ≤ count * width
row_within count width i l = let h : suc i * width ≤ count * width = mul-le-mul_right width l in omega arith

pub row_inside : {count size : ℕ} (width i : ℕ) → i < count → size ≡ count * width → i * width + width ≤ size
row_inside {count} width i l e =
    let h : i * width + width ≤ count * width = row_within count width i l in omega (arith, e)

-- a number that an index has read
pub read_at : (items : List ℕ) (k x : ℕ) → k < length items → x ≡ get_or items k x → x ≡ get_or items k 0
read_at items k x l e = e ∙ get_or_default items k x 0 l

-- ---- after a write to one place

pub set_here : (rows : List ℤ) (w i c : ℕ) (v : ℤ) → i * w + c < length rows → row_at (set rows (i * w + c) v) w i c ≡ v
set_here rows w i c v h = get_or-set_same rows (i * w + c) v (pos 0) h

pub set_elsewhere : (rows : List ℤ) (w i c j k : ℕ) (v : ℤ) → c < w → k < w → (k ≢ c) ⊎ (j ≢ i)
    → row_at (set rows (i * w + c) v) w j k ≡ row_at rows w j k
set_elsewhere rows w i c j k v cl kl d =
    get_or-set_other rows (i * w + c) (j * w + k) v (pos 0) (λ e. elim (cases_order j i) [
      | inl s ↦
          let t : j * w ≡ i * w = ap (λ x. x * w) s in
          elim d [ inl n ↦ n (omega arith) | inr n ↦ n s ]
      | inr (inl l) ↦ let b : j * w + w ≤ i * w = row_within i w j l in omega arith
      | inr (inr l) ↦ let b : i * w + w ≤ j * w = row_within j w i l in omega arith
    ])
