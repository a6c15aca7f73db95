-- A table's rows, cleared one by one.
use Rattle.std.proofs.Common.{◌≡◌, ◌≢◌, ℕ, ◌+◌, ◌*◌, ◌<◌, ◌≤◌, sym, ◌∙◌, refl, subst, arith, inl, inr, ◌⊎◌, List, length}
use Rattle.std.proofs.lemmas.Bool.{cases_eq, cases_order}
use lib.IntN.{ℤ, pos}
use Rattle.rob_linear.specs.Vectors.{Matrix, Vector, at}
use Rattle.rob_linear.specs.Multiples.{IsClearedBy}
use Rattle.rob_linear.proofs.RowForms.Multiples.{zero_clears}
use Rattle.rob_entries.specs.Updates.{IsWideCleared}
use Rattle.rob_entries.proofs.ClearingLemmas.{cleared_ext}
use Rattle.rob_table.specs.Tables.{row_at, HasBounds, AreCleared, IsStopped}
use Rattle.rob_table.proofs.Places.{row_inside, row_within}

-- ---- a row of the table
pub row_in : (limit width : ℕ) (rows : List ℤ) (bounds : List ℕ) → HasBounds limit width rows bounds → (i : ℕ)
    → i < length bounds → i * width + width ≤ length rows
row_in limit width rows bounds h i il = row_inside width i il h.size

-- numbers outside of row i stay: other rows do
pub rows_apart : (rows new : List ℤ) (width i : ℕ)
    → ((k : ℕ) → (k < i * width) ⊎ (i * width + width ≤ k) → at new k ≡ at rows k) → (j k : ℕ) → j ≢ i → k < width
    → row_at new width j k ≡ row_at rows width j k
rows_apart rows new width i same j k d l =
    elim (cases_order j i) [
      | inl c ↦ absurd (d c)
      | inr (inl c) ↦
          let b : j * width + width ≤ i * width = row_within i width j c in same (j * width + k) (inl (omega arith))
      | inr (inr c) ↦
          let b : i * width + width ≤ j * width = row_within j width i c in same (j * width + k) (inr (omega arith))
    ]

-- ---- one row more
module _ (width e place : ℕ) (top : Vector) (pl : place < width) (rows : Matrix) where
  -- a row that is 0 there stays
  pub keep_row : (i : ℕ) (now : Matrix) → now i place ≡ pos 0 → AreCleared i width e place top rows now
      → AreCleared (i + 1) width e place top rows now
  keep_row i now z h = record {
    cleared = λ j l d. elim (cases_eq j i) [
      | inl x ↦
          subst (λ t. IsClearedBy width place (rows t) top (now t)) (sym x)
          (cleared_ext width place (now i) (rows i) top (now i) (now i) (λ k kl. h.others i k (omega arith) kl)
          (λ k kl. refl) pl
          (zero_clears width place (now i) top (now i) pl z (λ k kl. refl)))
      | inr x ↦ h.cleared j (omega arith) d
    ];
    row_stays = h.row_stays;
    others = λ j k l kl. h.others j k (omega arith) kl;
  }

  -- a row is cleared
  pub clear_more : (i : ℕ) (now next : Matrix) → i ≢ e → IsClearedBy width place (now i) top (next i)
      → ((j k : ℕ) → j ≢ i → k < width → next j k ≡ now j k)
      → AreCleared i width e place top rows now → AreCleared (i + 1) width e place top rows next
  clear_more i now next o c same h = record {
    cleared = λ j l d. elim (cases_eq j i) [
      | inl x ↦
          subst (λ t. IsClearedBy width place (rows t) top (next t)) (sym x)
          (cleared_ext width place (now i) (rows i) top (next i) (next i) (λ k kl. h.others i k (omega arith) kl)
          (λ k kl. refl) pl c)
      | inr x ↦
          cleared_ext width place (rows j) (rows j) top (now j) (next j) (λ k kl. refl) (λ k kl. sym (same j k x kl)) pl
          (h.cleared j (omega arith) d)
    ];
    row_stays = λ k l. same e k (λ x. o (sym x)) l ∙ h.row_stays k l;
    others = λ j k l kl. same j k (λ x. absurd (omega arith)) kl ∙ h.others j k (omega arith) kl;
  }

  -- a row is wide
  pub wide_at : (limit count i : ℕ) (now : Matrix) → i < count → i ≢ e → IsWideCleared limit width place (now i) top
      → AreCleared i width e place top rows now
      → IsStopped limit count width e place top rows now i
  wide_at limit count i now l o w h = record {
    inside = l;
    other = o;
    before = h;
    wide = (
      w.0,
      cleared_ext width place (now i) (rows i) top w.0 w.0 (λ k kl. h.others i k (omega arith) kl)
          (λ k kl. refl) pl w.1,
      w.2,
      w.3,
    );
  }
