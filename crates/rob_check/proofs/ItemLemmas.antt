-- One item more.
use Rattle.std.proofs.Common.{◌≡◌, ℕ, ◌+◌, ◌<◌, ◌≤◌, ℤ, List, ◌∷◌, ◌++◌, map, length, get_or, drop, sym, ◌∙◌, ap, ap₂, add-one}
use Rattle.std.specs.Prelude.{Option, Some, None}
use Rattle.rob_algebra.specs.Fraction.{Fraction, ◌+ℚ◌, ◌*ℚ◌}
use Rattle.rob_algebra.specs.Width.{kept}
use Rattle.rob_cert.specs.View.{item_of}
use Rattle.rob_cert.specs.declared.certificate.Item.{Item}
use Rattle.rob_meaning.specs.Clearing.{fractions}
use Rattle.rob_meaning.specs.Forms.{matrix_at}
use Rattle.rob_meaning.specs.RobustModel.{RobustModel}
use Rattle.rob_model.proofs.PartLemmas.{drop_at, drop_all}
use Rattle.rob_model.specs.Within.{◌>>=◌}
use Rattle.rob_check.specs.Conditions.{item_tests, item_within, items_tests}
use Rattle.rob_check.specs.Sums.{added_within, column, dot_within, with_part}
use Rattle.rob_check.specs.Verdicts.{verdict}
use Rattle.rob_check.specs.declared.verdict.Verdict.{Verdict}
use Rattle.rob_check.specs.declared.verdict.Verdict.TheVariants.{Accepted}
use Rattle.rob_check.proofs.SumLemmas.{part_added, part_wide}
use Rattle.rob_check.proofs.VerdictLemmas.{goes, stops}
use Rattle.rob_meaning.proofs.Tables.MatrixLemmas.{matrix_is}

module _ {N : Type 0} (value : N → Fraction) (limit : ℕ) (forms : List (List (List ℤ))) (j : ℕ) where
  -- ---- an item in a column
  module _ (item : Item N) (form entries : List (List ℤ)) (inside : item.form < length forms)
      (is : form ≡ get_or forms item.form form) (same : entries ≡ form) where
    cut_is : (vector : List N) → vector ≡ item.vector
        → dot_within limit (value item.base ∷ map value vector) (column j (fractions entries))
        ≡ dot_within limit (value item.base ∷ map value item.vector) (column j (fractions (matrix_at forms item.form)))
    cut_is vector v =
        ap₂ (λ (xs : List N) (rows : List (List ℤ)).
        dot_within limit (value item.base ∷ map value xs) (column j (fractions rows))) v
        (same ∙ sym (matrix_is forms item.form form inside is))

    pub item_stops : (vector : List N) → vector ≡ item.vector
        → None ≡ dot_within limit (value item.base ∷ map value vector) (column j (fractions entries))
        → None ≡ item_within limit forms j (item_of value item)
    item_stops vector v none = ap (λ o. o >>= (λ x. kept limit (value item.weight *ℚ x))) (none ∙ cut_is vector v)

    pub item_goes : (vector : List N) → vector ≡ item.vector → (cut : Fraction) (r : Option Fraction)
        → Some cut ≡ dot_within limit (value item.base ∷ map value vector) (column j (fractions entries))
        → r ≡ kept limit (value item.weight *ℚ cut) → r ≡ item_within limit forms j (item_of value item)
    item_goes vector v cut r some h =
        h ∙ ap (λ o. o >>= (λ x. kept limit (value item.weight *ℚ x))) (some ∙ cut_is vector v)

  -- ---- the sum in a column
  abbrev pub column_left : List (Item N) → ℕ → Fraction → Option Fraction
  column_left items k so_far =
      added_within limit so_far (map (item_within limit forms j) (map (item_of value) (drop k items)))

  module _ (items : List (Item N)) (k : ℕ) (item : Item N) (so_far : Fraction) (inside : k < length items)
      (is : item ≡ get_or items k item) where
    column_step : column_left items k so_far
        ≡ added_within limit so_far (item_within limit forms j (item_of value item)
        ∷ map (item_within limit forms j) (map (item_of value) (drop (k + 1) items)))
    column_step =
        ap (λ (xs : List (Item N)). added_within limit so_far
        (map (item_within limit forms j) (map (item_of value) xs))) (drop_at items k item inside is)

    -- the item is wide, or the sum with it
    pub item_wide : None ≡ item_within limit forms j (item_of value item) → None ≡ column_left items k so_far
    item_wide none = part_wide limit so_far _ _ (ap (with_part limit so_far) none) ∙ sym column_step

    module _ (part : Fraction) (some : Some part ≡ item_within limit forms j (item_of value item)) where
      pub column_stops : None ≡ kept limit (so_far +ℚ part) → None ≡ column_left items k so_far
      column_stops none = part_wide limit so_far _ _ (none ∙ ap (with_part limit so_far) some) ∙ sym column_step

      pub column_goes : (next : Fraction) → Some next ≡ kept limit (so_far +ℚ part)
          → column_left items (k + 1) next ≡ column_left items k so_far
      column_goes next h = part_added limit so_far _ _ next (h ∙ ap (with_part limit so_far) some) ∙ sym column_step

  pub column_ends : (items : List (Item N)) (k : ℕ) (so_far : Fraction) → length items ≤ k
      → Some so_far ≡ column_left items k so_far
  column_ends items k so_far past =
      sym (ap (λ (xs : List (Item N)). added_within limit so_far
      (map (item_within limit forms j) (map (item_of value) xs))) (drop_all k items past))

-- ---- the verdict on items
module _ {N : Type 0} (value : N → Fraction) (limit : ℕ) (m : RobustModel)
    (items : List (Item N)) (k : ℕ) (item : Item N)
    (inside : k < length items) (is : item ≡ get_or items k item) where
  items_split : items_tests limit m k (map (item_of value) (drop k items))
      ≡ item_tests limit m k (item_of value item)
      ++ items_tests limit m (k + 1) (map (item_of value) (drop (k + 1) items))
  items_split =
      ap (λ (xs : List (Item N)). items_tests limit m k (map (item_of value) xs)) (drop_at items k item inside is)
      ∙ ap (λ i. item_tests limit m k (item_of value item)
      ++ items_tests limit m i (map (item_of value) (drop (k + 1) items))) (sym (add-one k))

  pub items_stop : (v : Verdict) → (v ≡ Accepted → ⊥) → v ≡ verdict (item_tests limit m k (item_of value item))
      → v ≡ verdict (items_tests limit m k (map (item_of value) (drop k items)))
  items_stop v flaw h = stops (item_tests limit m k (item_of value item)) _ v flaw h ∙ ap verdict (sym items_split)

  pub items_go : Accepted ≡ verdict (item_tests limit m k (item_of value item))
      → verdict (items_tests limit m (k + 1) (map (item_of value) (drop (k + 1) items)))
      ≡ verdict (items_tests limit m k (map (item_of value) (drop k items)))
  items_go h = goes (item_tests limit m k (item_of value item)) _ h ∙ ap verdict (sym items_split)
