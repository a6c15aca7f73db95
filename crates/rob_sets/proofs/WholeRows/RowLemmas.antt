-- Set rows as lists of numbers.
use Rattle.std.specs.Prelude.{◌≡◌, ℕ, ◌+◌, ◌≤◌, ℤ, nat_abs, List, [], ◌∷◌, ◌++◌, map, length}
use Rattle.std.proofs.Common.{sym, ◌∙◌, ap, ap₂, subst, append_assoc}
use Rattle.rob_algebra.specs.Fraction.{Fraction}
use Rattle.std.proofs.lemmas.List.{length-map, map-append}
use Rattle.rob_meaning.specs.Clearing.{denominator, whole_at}
use Rattle.rob_meaning.specs.Coefficients.{Table}
use Rattle.rob_meaning.specs.Places.{Each, tabulate}
use Rattle.rob_meaning.specs.RobustModel.{RobustModel}
use Rattle.rob_meaning.specs.SetRows.{coefficients, lift_count, whole_limit, whole_row}
use Rattle.rob_meaning.specs.SetRows as lifted
use Rattle.rob_model.specs.View.{parameter_of, robust}
use Rattle.rob_model.specs.declared.model.Model.{Model}
use Rattle.rob_sets.specs.Appending.{AppendsLines, row_of}
use Rattle.rob_sets.specs.FirstWide.{IsWideCleared}
use Rattle.rob_sets.specs.SetForm.{RowFits, cleared_row, judged_row}
use Rattle.rob_sets.specs.declared.set_form.SetRow.{SetRow}
use Rattle.rob_meaning.proofs.Lists.TabulateLemmas.{tabulate_next}

module _ {N : Type 0} (value : N → Fraction) where
  pub pushed : (items new : List N) (x : N) (ys : List Fraction) (y : Fraction) → map value items ≡ ys
      → new ≡ items ++ x ∷ [] → value x ≡ y
      → map value new ≡ ys ++ y ∷ []
  pushed items new x ys y h e is =
      ap (map value) e ∙ map-append value items (x ∷ [])
      ∙ ap₂ (λ (zs : List Fraction) (z : Fraction). zs ++ z ∷ []) h is

  pub parameter_more : (items new : List N) (x : N) (n : ℕ) (first : Fraction) (f : ℕ → Fraction)
      → map value items ≡ first ∷ tabulate n f
      → new ≡ items ++ x ∷ [] → value x ≡ f n → map value new ≡ first ∷ tabulate (n + 1) f
  parameter_more items new x n first f h e is =
      pushed items new x (first ∷ tabulate n f) (f n) h e is
      ∙ ap (λ (zs : List Fraction). first ∷ zs) (tabulate_next f n)

  pub lift_more : (items new : List N) (x : N) (n : ℕ) (before : List Fraction) (first : Fraction) (f : ℕ → Fraction)
      → map value items ≡ first ∷ (before ++ tabulate n f)
      → new ≡ items ++ x ∷ [] → value x ≡ f n → map value new ≡ first ∷ (before ++ tabulate (n + 1) f)
  lift_more items new x n before first f h e is =
      pushed items new x (first ∷ (before ++ tabulate n f)) (f n) h e is
      ∙ ap (λ (zs : List Fraction). first ∷ zs)
      (append_assoc before (tabulate n f) (f n ∷ [])
      ∙ ap (λ (zs : List Fraction). before ++ zs) (tabulate_next f n))

  -- the numbers of a row are its right side and its coefficients
  pub row_is : (model : Model N) (f : Table) (parameters lifts : ℕ) (numbers : List N)
      → parameters ≡ length model.params
      → lifts ≡ lift_count (robust value model).set_lines
      → map value numbers ≡ (row_of f).limit
      ∷ (tabulate parameters (row_of f).on_parameters ++ tabulate lifts (row_of f).on_lifts)
      → map value numbers ≡ (row_of f).limit ∷ coefficients (robust value model) (row_of f)
  row_is model f parameters lifts numbers p l h =
      h ∙ ap₂ (λ a b. (row_of f).limit ∷ (tabulate a (row_of f).on_parameters ++ tabulate b (row_of f).on_lifts))
      (p ∙ sym (length-map model.params (parameter_of value))) l

-- ---- a row that is cleared is appended
abbrev set_row : List ℤ → ℤ → SetRow
set_row g h = record { g = g; h = h }

module _ (limit : ℕ) (m : RobustModel) (row : lifted.SetRow) (place : ℕ) (numbers : List Fraction) (cleared : List ℤ)
    (made : SetRow) (old new : List SetRow) (is : numbers ≡ row.limit ∷ coefficients m row)
    (whole : cleared ≡ map (whole_at (denominator numbers)) numbers) (parts : cleared ≡ made.h ∷ made.g)
    (fit : Each (λ a. nat_abs a ≤ limit) cleared) (not_wide : IsWideCleared limit numbers → ⊥)
    (appended : new ≡ old ++ made ∷ []) where
  made_is : made ≡ cleared_row m row
  made_is =
      let all : made.h ∷ made.g ≡ whole_limit m row ∷ whole_row m row
      = sym parts ∙ whole ∙ ap (λ (qs : List Fraction). map (whole_at (denominator qs)) qs) is in
      let g : made.g ≡ whole_row m row = cc in
      let h : made.h ≡ whole_limit m row = cc in
      ap₂ set_row g h

  pub row_appended : AppendsLines (cleared_row m) (RowFits limit) limit m (row ∷ []) (judged_row m place row ∷ [])
      old new
  row_appended =
      let each : Each (λ a. nat_abs a ≤ limit) (made.h ∷ made.g)
      = subst (λ (zs : List ℤ). Each (λ a. nat_abs a ≤ limit) zs) parts fit in
      record {
        appended = appended ∙ ap (λ (r : SetRow). old ++ r ∷ []) made_is;
        fit = (subst (RowFits limit) made_is (record { coefficients = each.1; right_side = each.0 }), tt);
        none_wide = (subst (λ (qs : List Fraction). IsWideCleared limit qs → ⊥) is not_wide, tt);
      }
