-- What the lengths of the ranges of an item tell, before any value is put in for one of them.
use Rattle.std.specs.Prelude.{◌≡◌, ◌≤ℤ◌, ℤ, pos, Bool, false, ◌||◌, int_lt, List, [], ◌∷◌}
use Rattle.std.specs.List.{list_any}
use Rattle.rob_index.specs.Forms.{Form, Ends, value_of, values_of, length_form, without, only}
use Rattle.rob_ranges.specs.Shorts.{short_value}
use Rattle.rob_settings.specs.declared.inner.Lengths.{Lengths}

-- how far the last value of the outermost range is from its first; 0 where there is none, as of a range with one value
abbrev pub first_length : List Ends → Form
first_length [] = only (pos 0)
first_length (r ∷ rs) = length_form r

-- how far that of the range inside it is from its first at most, whatever the value of the outermost range; 0 where
-- there is none
abbrev pub second_length : List Ends → Form
second_length [] = only (pos 0)
second_length (r ∷ []) = only (pos 0)
second_length (r ∷ s ∷ rs) = without r (length_form s)

-- both lengths are the forms that are kept, where forms are kept; and a third form is at least 0 wherever both are
pub record AreLengths (ranges : List Ends) (kept : Lengths) : Type 0 where
  pub first : (vs : List ℤ) → value_of (first_length ranges) vs ≡ short_value kept.first vs
  pub second : (vs : List ℤ) → value_of (second_length ranges) vs ≡ short_value kept.second vs
  pub combined : (vs : List ℤ) → pos 0 ≤ℤ value_of (first_length ranges) vs
      → pos 0 ≤ℤ value_of (second_length ranges) vs → pos 0 ≤ℤ short_value kept.combined vs

-- some range has more than 100 values at some values of those around it
abbrev pub is_long_in : List Ends → List ℤ → Bool
is_long_in [] vs = false
is_long_in (r ∷ rs) vs =
    int_lt (pos 99) (value_of (length_form r) vs) || list_any (λ v. is_long_in rs (v ∷ vs)) (values_of r vs)
