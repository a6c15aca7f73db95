-- The entries of a table in order: the first, and those behind it.
use Rattle.std.specs.Prelude.{◌≡◌, ℕ, Bool, true, cond, List, [], ◌∷◌, Some, ◌⊎◌}
use Rattle.std.proofs.Common.{sym, ◌∙◌, ap, ap₂, subst, inl, inr}
use Rattle.std.proofs.lemmas.Cmp.{eq_by_cmp_equiv, nat_cmp_total, on_total, then_total}
use Rattle.std.proofs.lemmas.Map.{lookup-none}
use Rattle.std.proofs.lemmas.Map.Entries.{none_past_head}
use Rattle.std.proofs.lemmas.Map.Keys.{IsDistinct-from_sorted, sorted_tail}
use Rattle.std.specs.BTreeMap.{is_at}
use Rattle.std.specs.Cmp.{IsTotalOrder}
use Rattle.std.specs.List.Sorted.{IsStrictlySortedBy}
use Rattle.std.specs.Map.{keys_of, lookup}
use Rattle.rob_algebra.specs.Fraction.{Fraction, ◌+ℚ◌, ◌*ℚ◌}
use Rattle.rob_algebra.specs.FractionLaws as Q
use Rattle.rob_meaning.specs.Coefficients.{Table, single}
use Rattle.rob_meaning.specs.Places.{0ℚ}
use Rattle.rob_sets.specs.Tables.{cell_cmp, number_or_zero}
use Rattle.rob_sets.specs.declared.table.Cell.{Cell}
use Rattle.rob_sets.proofs.Cells.CellLemmas.{AreOne, are_one, single-same, single-sym, same_cell, signed_parts}
use Rattle.rob_meaning.specs.Values.{signed}
use Rattle.rob_model.proofs.ValueLemmas.{add-zero_ℚ, mul-one_ℚ}
use Rattle.rob_meaning.proofs.Tables.TableLemmas.{signed-zero, times_zero}

pub cell_total : IsTotalOrder cell_cmp
cell_total = then_total (on_total (λ (c : Cell). c.row) nat_cmp_total) (on_total (λ (c : Cell). c.column) nat_cmp_total)

-- the entries' cells ascend
abbrev pub AreOrdered : {N : Type 0} → List (Cell × N) → Type 0
AreOrdered es = IsStrictlySortedBy cell_cmp (keys_of es)

module _ {N : Type 0} (value : N → Fraction) where
  -- the number in row k and column j of a list of entries
  abbrev pub number_in : List (Cell × N) → ℕ → ℕ → Fraction
  number_in es k j = number_or_zero value (lookup (is_at (cell_cmp (record { row = k; column = j }))) es)

  -- behind the first entry there is none at its cell
  pub none_behind : (e : Cell × N) (es : List (Cell × N)) (k j : ℕ) → AreOrdered (e ∷ es)
      → is_at (cell_cmp (record { row = k; column = j })) e.0 ≡ true → number_in es k j ≡ 0ℚ
  none_behind e es k j ordered here =
      ap (number_or_zero value)
      (lookup-none (is_at (cell_cmp (record { row = k; column = j }))) es
      (none_past_head (eq_by_cmp_equiv cell_total) (record { row = k; column = j }) e es
      (IsDistinct-from_sorted cell_cmp (keys_of (e ∷ es)) ordered) here))

  -- a number is the first entry's, at its cell, and that of the others
  pub number_in-cons : (e : Cell × N) (es : List (Cell × N)) (k j : ℕ) → AreOrdered (e ∷ es)
      → number_in (e ∷ es) k j ≡ value e.1 *ℚ single e.0.row e.0.column k j +ℚ number_in es k j
  number_in-cons e es k j ordered = by (are_one k j e.0.row e.0.column)
    where
      by : AreOne k j e.0.row e.0.column (cell_cmp (record { row = k; column = j }) e.0)
          → number_in (e ∷ es) k j ≡ value e.1 *ℚ single e.0.row e.0.column k j +ℚ number_in es k j
      by (inl here) =
          ap (λ b. number_or_zero value
          (cond b (Some e.1) (lookup (is_at (cell_cmp (record { row = k; column = j }))) es))) here.0
          ∙ sym (ap₂ ◌+ℚ◌
          (ap (λ u. value e.1 *ℚ u) (ap₂ (λ (r c : ℕ). single e.0.row e.0.column r c) here.1 here.2
          ∙ single-same e.0.row e.0.column) ∙ mul-one_ℚ (value e.1))
          (none_behind e es k j ordered here.0) ∙ add-zero_ℚ (value e.1))
      by (inr apart) =
          ap (λ b. number_or_zero value
          (cond b (Some e.1) (lookup (is_at (cell_cmp (record { row = k; column = j }))) es))) apart.0
          ∙ sym (ap (λ u. u +ℚ number_in es k j)
          (ap (λ u. value e.1 *ℚ u) (single-sym e.0.row e.0.column k j ∙ apart.1) ∙ times_zero (value e.1))
          ∙ Q.ℚ-zero-add (number_in es k j))

  -- at its cell it is the first entry's
  pub number_in-head : (e : Cell × N) (es : List (Cell × N)) → number_in (e ∷ es) e.0.row e.0.column ≡ value e.1
  number_in-head e es =
      ap (λ b. number_or_zero value
      (cond b (Some e.1) (lookup (is_at (cell_cmp (record { row = e.0.row; column = e.0.column }))) es)))
      (same_cell e.0.row e.0.column)

  -- ---- the numbers of a table are joined, entry by entry
  pub joined_step : (minus : Bool) (es fs : List (Cell × N)) (c : Cell) (x y : N) → es ≡ (c, x) ∷ fs → AreOrdered es
      → value y ≡ signed minus (value x) → (k j : ℕ) (a b total : Fraction)
      → a +ℚ signed minus (number_in es k j) ≡ total
      → b ≡ a +ℚ value y *ℚ single c.row c.column k j → b +ℚ signed minus (number_in fs k j) ≡ total
  joined_step minus es fs c x y e ordered s k j a b total h g =
      ap (λ u. u +ℚ signed minus (number_in fs k j)) (g ∙ ap (λ u. a +ℚ u *ℚ single c.row c.column k j) s)
      ∙ Q.ℚ-add_assoc a (signed minus (value x) *ℚ single c.row c.column k j) (signed minus (number_in fs k j))
      ∙ ap (λ u. a +ℚ u) (signed_parts minus (value x) (single c.row c.column k j) (number_in fs k j))
      ∙ ap (λ u. a +ℚ signed minus u)
      (sym (ap (λ (xs : List (Cell × N)). number_in xs k j) e
      ∙ number_in-cons (c, x) fs k j (subst (λ (xs : List (Cell × N)). AreOrdered xs) e ordered)))
      ∙ h

  pub joined_end : (minus : Bool) (es : List (Cell × N)) → es ≡ [] → (k j : ℕ) (a total : Fraction)
      → a +ℚ signed minus (number_in es k j) ≡ total → a ≡ total
  joined_end minus es e k j a total h =
      sym (ap (λ (xs : List (Cell × N)). a +ℚ signed minus (number_in xs k j)) e
      ∙ ap (λ u. a +ℚ u) (signed-zero minus) ∙ add-zero_ℚ a) ∙ h

  pub ordered_behind : (es fs : List (Cell × N)) (e : Cell × N) → es ≡ e ∷ fs → AreOrdered es → AreOrdered fs
  ordered_behind es fs e is ordered =
      sorted_tail cell_cmp e.0 (keys_of fs) (subst (λ (xs : List (Cell × N)). AreOrdered xs) is ordered)

  -- each number of the entries is the table's, or there is none
  abbrev pub AreOf : Table → List (Cell × N) → Type 0
  AreOf f es = (k j : ℕ) → (number_in es k j ≡ 0ℚ) ⊎ (number_in es k j ≡ f k j)

  pub head_of : (f : Table) (e : Cell × N) (es fs : List (Cell × N)) → es ≡ e ∷ fs → AreOf f es → (value e.1 ≡ 0ℚ)
      ⊎ (value e.1 ≡ f e.0.row e.0.column)
  head_of f e es fs is h = by (subst (λ (xs : List (Cell × N)). AreOf f xs) is h e.0.row e.0.column)
    where
      by : (number_in (e ∷ fs) e.0.row e.0.column ≡ 0ℚ) ⊎ (number_in (e ∷ fs) e.0.row e.0.column ≡ f e.0.row e.0.column)
          → (value e.1 ≡ 0ℚ) ⊎ (value e.1 ≡ f e.0.row e.0.column)
      by (inl p) = inl (sym (number_in-head e fs) ∙ p)
      by (inr p) = inr (sym (number_in-head e fs) ∙ p)

  of_behind : (f : Table) (e : Cell × N) (fs : List (Cell × N)) → AreOrdered (e ∷ fs) → AreOf f (e ∷ fs) → AreOf f fs
  of_behind f e fs ordered h k j = by (are_one k j e.0.row e.0.column)
    where
      by : AreOne k j e.0.row e.0.column (cell_cmp (record { row = k; column = j }) e.0) → (number_in fs k j ≡ 0ℚ)
          ⊎ (number_in fs k j ≡ f k j)
      by (inl here) = inl (none_behind e fs k j ordered here.0)
      by (inr apart) = subst (λ (x : Fraction). (x ≡ 0ℚ) ⊎ (x ≡ f k j))
          (ap (λ b. number_or_zero value
          (cond b (Some e.1) (lookup (is_at (cell_cmp (record { row = k; column = j }))) fs))) apart.0)
          (h k j)

  pub of_others : (f : Table) (e : Cell × N) (es fs : List (Cell × N)) → es ≡ e ∷ fs → AreOrdered es
      → AreOf f es → AreOf f fs
  of_others f e es fs is ordered h =
      of_behind f e fs (subst (λ (xs : List (Cell × N)). AreOrdered xs) is ordered)
      (subst (λ (xs : List (Cell × N)). AreOf f xs) is h)

  pub first_is : (e : Cell × N) (es fs : List (Cell × N)) → es ≡ e ∷ fs → AreOrdered es → (k j : ℕ)
      → number_in es k j ≡ value e.1 *ℚ single e.0.row e.0.column k j +ℚ number_in fs k j
  first_is e es fs is ordered k j =
      ap (λ (xs : List (Cell × N)). number_in xs k j) is
      ∙ number_in-cons e fs k j (subst (λ (xs : List (Cell × N)). AreOrdered xs) is ordered)

  pub first_here : (e : Cell × N) (es fs : List (Cell × N)) → es ≡ e ∷ fs → number_in es e.0.row e.0.column ≡ value e.1
  first_here e es fs is = ap (λ (xs : List (Cell × N)). number_in xs e.0.row e.0.column) is ∙ number_in-head e fs

  pub behind_is : (e : Cell × N) (es fs : List (Cell × N)) → es ≡ e ∷ fs → AreOrdered es
      → number_in fs e.0.row e.0.column ≡ 0ℚ
  behind_is e es fs is ordered =
      none_behind e fs e.0.row e.0.column (subst (λ (xs : List (Cell × N)). AreOrdered xs) is ordered)
      (same_cell e.0.row e.0.column)
