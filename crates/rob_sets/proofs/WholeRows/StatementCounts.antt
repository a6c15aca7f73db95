-- The statement that a loop over a valid model's has come to: it is in order, and its number and the members so far are
-- few.
use Rattle.std.proofs.Common.{◌≡◌, ℕ, ◌+◌, ◌<◌, ◌≤◌, List, [], ◌∷◌, map, length, get_or, drop, arith, refl, ap, Fits, w32}
use Rattle.std.proofs.lemmas.List.{length-map}
use Rattle.rob_algebra.specs.Fraction.{Fraction}
use Rattle.rob_meaning.specs.SetRows.{lift_count}
use Rattle.rob_meaning.specs.WellFormed.{IsSetLine}
use Rattle.rob_meaning.proofs.Lists.EachLemmas.{each_get}
use Rattle.rob_model.specs.Valid.{IsValid}
use Rattle.rob_model.specs.View.{robust, set_line_of}
use Rattle.rob_model.specs.declared.model.Model.{Model}
use Rattle.rob_model.specs.declared.model.SetLine.{SetLine}
use Rattle.rob_sets.proofs.Cells.ItemLemmas.{drop_item}
use Rattle.rob_algebra.proofs.ListLemmas.{item_inside, item_is}
use Rattle.rob_sets.proofs.WholeRows.StatementLemmas.{lifts_at}

module _ {N : Type 0} {value : N → Fraction} {model : Model N} (valid : IsValid value model)
    {items : List (SetLine N)} {i : ℕ} (same : items ≡ model.set_lines) (inside : i < length items) where
  -- the number of the statement behind it fits
  pub number_fits : {n : ℕ} → n ≡ i → Fits w32 (n + 1)
  number_fits n =
      omega (
        arith,
        n,
        valid.limits.set_lines,
        ap length same,
        length-map model.set_lines (set_line_of value),
      )

  pub statement_inside : {x : SetLine N} → x ≡ get_or items i x
      → IsSetLine (robust value model) (set_line_of value x)
  statement_inside {x} is =
      each_get (IsSetLine (robust value model)) (set_line_of value) model.set_lines i x (item_inside i same inside)
      (item_is i same is) valid.well_formed.set_lines

  module _ {x : SetLine N} (is : x ≡ get_or items i x) (t : ℕ)
      (so_far : t + lift_count (map (set_line_of value) (drop i model.set_lines))
      ≡ lift_count (map (set_line_of value) model.set_lines)) where
    here : lift_count (map (set_line_of value) (drop i model.set_lines))
        ≡ lift_count (set_line_of value x ∷ []) + lift_count (map (set_line_of value) (drop (i + 1) model.set_lines))
    here = lifts_at (robust value model) (set_line_of value) model.set_lines i t _ (drop_item i same inside is) refl

    pub few_lifts : t + lift_count (set_line_of value x ∷ []) ≤ 64
    few_lifts = omega (arith, so_far, here, valid.limits.members)

    pub lifts_below : t + lift_count (set_line_of value x ∷ []) < 1000
    lifts_below = omega (arith, few_lifts)

    pub few_here : lift_count (set_line_of value x ∷ []) ≤ 64
    few_here = omega (arith, few_lifts)

    pub lifts_fit : {n : ℕ} → n ≡ lift_count (set_line_of value x ∷ []) → Fits w32 (t + n)
    lifts_fit n = omega (arith, n, few_lifts)

    pub lifts_left : {n : ℕ} → n ≡ lift_count (set_line_of value x ∷ [])
        → (t + n) + lift_count (map (set_line_of value) (drop (i + 1) model.set_lines))
        ≡ lift_count (map (set_line_of value) model.set_lines)
    lifts_left n = omega (arith, n, so_far, here)
