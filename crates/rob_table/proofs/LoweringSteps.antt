-- A table in which a row loses an amount at one place: the entries that are written before, and the row that clears.
use Rattle.std.proofs.Common.{◌≡◌, ℕ, ◌+◌, ◌*◌, ◌<◌, ◌≤◌, sym, ap, ◌∙◌, subst, arith, inl, inr, List, length, set, nat_abs}
use Rattle.std.proofs.lemmas.Bool.{cases_eq}
use Rattle.std.proofs.lemmas.List.{get_or-set_same, get_or-set_other, length-set}
use lib.IntN.{ℤ}
use Rattle.rob_table.specs.Tables.{row_at, bound_at, HasBounds}
use Rattle.rob_table.proofs.Places.{set_here, set_elsewhere}
use Rattle.rob_table.proofs.Clearing.{row_in}

-- ---- one entry written, and the row's bound raised to it
module _ (limit width : ℕ) (rows : List ℤ) (bounds : List ℕ) (i : ℕ) (il : i < length bounds) (place : ℕ)
    (pl : place < width) (factor : ℤ) (raised : ℕ) (old : bound_at bounds i ≤ raised) (new : nat_abs factor ≤ raised)
    (high : bound_at bounds i ≤ limit → raised ≤ limit) where
  pub raised_bounds : HasBounds limit width rows bounds
      → HasBounds limit width (set rows (i * width + place) factor) (set bounds i raised)
  raised_bounds h =
      let n : length (set bounds i raised) ≡ length bounds = length-set bounds i raised in
      let inside : i * width + width ≤ length rows = row_in limit width rows bounds h i il in
      record {
        size = length-set rows (i * width + place) factor ∙ h.size ∙ ap (λ t. t * width) (sym n);
        within = λ j k jl kl. elim (cases_eq j i) [
          | inr d ↦
              subst (λ z. nat_abs z ≤ bound_at (set bounds i raised) j)
              (sym (set_elsewhere rows width i place j k factor pl kl (inr d)))
              (subst (λ b. nat_abs (row_at rows width j k) ≤ b) (sym (get_or-set_other bounds i j raised 0 d))
              (h.within j k (omega arith) kl))
          | inl e ↦
              subst (λ (v : ℕ). nat_abs (row_at (set rows (i * width + place) factor) width v k) ≤ bound_at
              (set bounds i raised) v) (sym e)
              (subst (λ b. nat_abs (row_at (set rows (i * width + place) factor) width i k) ≤ b)
              (sym (get_or-set_same bounds i raised 0 il))
              (elim (cases_eq k place) [
                | inl s ↦
                    subst (λ (v : ℕ). nat_abs (row_at (set rows (i * width + place) factor) width i v) ≤ raised) (sym s)
                    (subst (λ z. nat_abs z ≤ raised) (sym (set_here rows width i place factor (omega arith))) new)
                | inr d ↦
                    let w : nat_abs (row_at rows width i k) ≤ bound_at bounds i = h.within i k il kl in
                    subst (λ z. nat_abs z ≤ raised) (sym (set_elsewhere rows width i place i k factor pl kl (inl d)))
                    (omega arith)
              ]))
        ];
        low = λ j jl. elim (cases_eq j i) [
          | inl e ↦
              subst (λ (v : ℕ). bound_at (set bounds i raised) v ≤ limit) (sym e)
              (subst (λ b. b ≤ limit) (sym (get_or-set_same bounds i raised 0 il)) (high (h.low i il)))
          | inr d ↦ subst (λ b. b ≤ limit) (sym (get_or-set_other bounds i j raised 0 d)) (h.low j (omega arith))
        ];
      }
