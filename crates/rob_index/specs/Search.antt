-- Which fault is named of a line. Where the line's expansion fits, it is the first that the line has. Where it
-- doesn't, the line is refused in any case: then a range that is too long, or an index that is out of bounds, is
-- named where the ends of the ranges show it, or where a search among their values finds it; each value that the
-- search puts in has its price, and there is a limit to what may be spent on a line.
use Rattle.std.specs.Prelude.{ℕ, ◌+◌, ◌-◌, ◌*◌, nat_le, nat_lt, ◌||◌, Bool, false, ℤ, pos, int_le, List, [], ◌∷◌, length, if◌then◌else◌, Option, Some, None}
use Rattle.std.specs.List.{list_any, find}
use Rattle.rob_index.specs.Statements.{Name, Index, Range, Tree, Indexed}
use Rattle.rob_index.specs.Expansion.{expand}
use Rattle.rob_index.specs.Counting.{lines_tokens}
use Rattle.rob_index.specs.Forms.{Form, Ends, value_of, minus, length_form, from_ends, fixed, onto, values_of}
use Rattle.rob_index.specs.Places.{of_ref, of_range, Inside, places}
use Rattle.rob_index.specs.Rules.{is_unknown, has_great_digits, IndexFault, index_unknown, range_too_long, index_out, too_much, in_order, has_fault, most_tokens}
use Rattle.rob_index.specs.Fast.{nothing, index_form, ends_of, nest_of, names_in}

-- what may be spent on a line
abbrev pub effort : ℕ
effort = 500000

-- whether something was found, and what is left to be spent
pub record Searched : Type 0 where
  pub found : Bool
  pub left : ℕ

-- nothing was found
abbrev pub missed : ℕ → Searched
missed left = record { found = false; left = left }

-- what comes behind a search that found nothing
abbrev pub search_on : Searched → (ℕ → Searched) → Searched
search_on s next = if s.found then s else next s.left

-- one value after the other is tried, each for this price; where it can't be paid the search ends
abbrev pub search_each : (ℤ → ℕ → Searched) → ℕ → List ℤ → ℕ → Searched
search_each try price [] left = missed left
search_each try price (v ∷ vs) left =
    if nat_lt left price then missed 0 else search_on (try v (left - price)) (search_each try price vs)

-- whether the form reaches the bound somewhere: from the ends where they tell, else with values put in for the
-- outermost range
abbrev pub search : ℕ → List Ends → List ℤ → Form → ℤ → ℕ → Searched
search price [] vs f bound left = record { found = int_le bound (value_of f vs); left = left }
search price (r ∷ rs) vs f bound left = elim (from_ends (onto (r ∷ rs) (fixed vs)) f bound) [
  | None ↦ search_each (λ v left. search price rs (v ∷ vs) f bound left) price (values_of r vs) left
  | Some b ↦ record { found = b; left = left }
]

-- putting in a value costs the cube of the number of ranges around
abbrev pub price_of : List Range → ℕ
price_of around = length around * (length around * length around)

-- ---- in the ranges around a place
-- an index over 999
abbrev pub search_over : List Range → Index → ℕ → Searched
search_over around x left =
    search (price_of around) (nest_of [] around) [] (index_form (names_in [] around) x) (pos 1000) left

-- an index below 0
abbrev pub search_below : List Range → Index → ℕ → Searched
search_below around x left =
    search (price_of around) (nest_of [] around) [] (minus nothing (index_form (names_in [] around) x)) (pos 1) left

-- a range of more than 100 values
abbrev pub search_length : List Range → Range → ℕ → Searched
search_length around r left =
    search (price_of around) (nest_of [] around) [] (length_form (ends_of (names_in [] around) r)) (pos 100) left

-- whether a range is too long somewhere, as far as that is found
abbrev pub search_long : Inside → ℕ → Searched
search_long i left = elim i.place [ of_ref x ↦ missed left | of_range r ↦ search_length i.around r left ]

-- whether an index is out of bounds somewhere, as far as that is found
abbrev pub search_out : Inside → ℕ → Searched
search_out i left = elim i.place [
  | of_ref x ↦ search_on (search_below i.around x left) (search_over i.around x)
  | of_range r ↦ missed left
]

-- one place after the other
abbrev pub search_places : (Inside → ℕ → Searched) → List Inside → ℕ → Searched
search_places test [] left = missed left
search_places test (i ∷ others) left = search_on (test i left) (search_places test others)

module _ (limit : ℕ) (words : List Name) (is_declared : ℕ → Bool) (total : ℕ) (s : Indexed Tree) where
  -- the line's canonical tokens, behind those of the lines before, are not too many
  abbrev pub has_room : Bool
  has_room = nat_le (total + lines_tokens limit (expand words s)) most_tokens

  -- an index that is out of bounds, or too much
  abbrev pub named_out : ℕ → IndexFault
  named_out left =
      if list_any has_great_digits (places s) || (search_places search_out (places s) left).found
      then index_out else too_much

  -- a range that is too long, or what is behind it
  abbrev pub named_long : Searched → IndexFault
  named_long long = if long.found then range_too_long else named_out long.left

  -- the fault of a line that is too much
  abbrev pub named_crowded : IndexFault
  named_crowded =
      if list_any (is_unknown is_declared) (places s) then index_unknown
      else named_long (search_places search_long (places s) effort)

  -- the fault that is named
  abbrev pub named : Option IndexFault
  named = if has_room then find (has_fault limit words is_declared total s) in_order else Some named_crowded
