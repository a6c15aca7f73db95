-- One step of the search for a value, range by range.
use Rattle.std.proofs.Common.{◌≡◌, ◌<◌, ℕ, Bool, List, [], ◌∷◌, length, Option, Some, None, refl, ap, arith}
use Rattle.std.specs.Prelude.{ℤ, int_le}
use Rattle.rob_index.specs.Forms.{Form, Ends, value_of, from_ends, fixed, onto, values_of}
use Rattle.rob_index.specs.Search.{Searched, search_each, search}
use Rattle.rob_ranges.specs.Seeking.{seek}

module _ (price : ℕ) (vs : List ℤ) (f : Form) (bound : ℤ) (left : ℕ) where
  -- no range is left
  pub search_end : (rs : List Ends) → length rs ≡ 0
      → search price rs vs f bound left ≡ record { found = int_le bound (value_of f vs); left = left }
  search_end [] h = refl
  search_end (r ∷ rs) h = absurd (omega (arith, h))

  -- the ends tell
  pub search_told : (rs : List Ends) (b : Bool) → 0 < length rs → from_ends (onto rs (fixed vs)) f bound ≡ Some b
      → search price rs vs f bound left ≡ record { found = b; left = left }
  search_told [] b h e = absurd (omega (arith, h))
  search_told (r ∷ rs) b h e = ap (λ (o : Option Bool). elim o as (λ _. Searched) [
    | None ↦ search_each (λ v left. search price rs (v ∷ vs) f bound left) price (values_of r vs) left
    | Some b ↦ record { found = b; left = left }
  ]) e

  -- they don't
  pub search_open : (rs : List Ends) → 0 < length rs → from_ends (onto rs (fixed vs)) f bound ≡ None
      → search price rs vs f bound left ≡ seek price rs vs f bound left
  search_open [] h e = absurd (omega (arith, h))
  search_open (r ∷ rs) h e = ap (λ (o : Option Bool). elim o as (λ _. Searched) [
    | None ↦ search_each (λ v left. search price rs (v ∷ vs) f bound left) price (values_of r vs) left
    | Some b ↦ record { found = b; left = left }
  ]) e

-- what a step of the search is
pub ruleset steps_of_search = (search_end, search_told, search_open)
