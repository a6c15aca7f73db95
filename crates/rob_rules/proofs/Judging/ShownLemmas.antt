-- A range that is too long, where the ends show it: a search that may spend nothing finds it, so one that may spend
-- more finds it too, and the line is refused for it whether it fits or not.
use Rattle.std.proofs.Common.{◌≡◌, ℕ, ◌-◌, ◌*◌, ◌<◌, Bool, true, false, List, [], ◌∷◌, length, Option, Some, None, refl, sym, ap, ◌∙◌, mul-pos, arith}
use Rattle.std.specs.Prelude.{ℤ, pos, ◌||◌, nat_lt, if◌then◌else◌}
use Rattle.std.specs.List.{list_any}
use Rattle.std.proofs.lemmas.Bool.{false≢true, lt-ltb, or_left, or_right}
use Rattle.rob_index.specs.Statements.{Name, Tree, Indexed, Range}
use Rattle.rob_index.specs.Forms.{Form, Ends, length_form, from_ends, fixed, onto, values_of}
use Rattle.rob_index.specs.Fast.{ends_of, nest_of, names_in}
use Rattle.rob_index.specs.Places.{of_ref, of_range, Inside, Place, places}
use Rattle.rob_index.specs.Rules.{is_unknown, is_long, index_unknown, range_too_long}
use Rattle.rob_index.specs.Search.{Searched, missed, search_on, search_each, search, price_of, search_long, search_places, has_room, named, effort}
use Rattle.rob_index.proofs.Faults.SearchLemmas.{long_found}
use Rattle.rob_rules.specs.Indices.{long_fault}
use Rattle.rob_rules.proofs.Judging.IndicesLemmas.{no_room, first_unknown, first_long, crowded_unknown, crowded_long}

-- ---- nothing may be spent
-- no value is put in
each_missed : (try : ℤ → ℕ → Searched) (price : ℕ) (vs : List ℤ) → nat_lt 0 price ≡ true
    → search_each try price vs 0 ≡ missed 0
each_missed try price [] h = refl
each_missed try price (v ∷ vs) h =
    ap (λ (t : Bool). if t then missed 0 else search_on (try v (0 - price)) (search_each try price vs)) h

module _ (price : ℕ) (f : Form) (bound : ℤ) where
  -- inside some ranges: what is found so is found for any amount, and nothing is left
  inside_shown : (r : Ends) (rs : List Ends) (vs : List ℤ) (left : ℕ) → nat_lt 0 price ≡ true
      → (search price (r ∷ rs) vs f bound 0).found ≡ true → (search price (r ∷ rs) vs f bound left).found ≡ true
  inside_shown r rs vs left paid = go (from_ends (onto (r ∷ rs) (fixed vs)) f bound)
    where
      go : (o : Option Bool)
          → (elim o as (λ _. Searched) [
            | None ↦ search_each (λ v left. search price rs (v ∷ vs) f bound left) price (values_of r vs) 0
            | Some b ↦ record { found = b; left = 0 }
          ]).found ≡ true
          → (elim o as (λ _. Searched) [
            | None ↦ search_each (λ v left. search price rs (v ∷ vs) f bound left) price (values_of r vs) left
            | Some b ↦ record { found = b; left = left }
          ]).found ≡ true
      go None h =
          let none : false ≡ true =
          sym (ap (λ (s : Searched). s.found)
          (each_missed (λ v left. search price rs (v ∷ vs) f bound left) price (values_of r vs) paid)) ∙ h in
          absurd (false≢true none)
      go (Some b) h = h

  inside_left : (r : Ends) (rs : List Ends) (vs : List ℤ) → nat_lt 0 price ≡ true
      → (search price (r ∷ rs) vs f bound 0).left ≡ 0
  inside_left r rs vs paid = go (from_ends (onto (r ∷ rs) (fixed vs)) f bound)
    where
      go : (o : Option Bool)
          → (elim o as (λ _. Searched) [
            | None ↦ search_each (λ v left. search price rs (v ∷ vs) f bound left) price (values_of r vs) 0
            | Some b ↦ record { found = b; left = 0 }
          ]).left ≡ 0
      go None =
          ap (λ (s : Searched). s.left)
          (each_missed (λ v left. search price rs (v ∷ vs) f bound left) price (values_of r vs) paid)
      go (Some b) = refl

-- a range inside others has a price
cube_positive : (n : ℕ) → 0 < n → nat_lt 0 (n * (n * n)) ≡ true
cube_positive n some = lt-ltb 0 (n * (n * n)) (mul-pos some (mul-pos some some))

has_price : (r : Range) (rs : List Range) → nat_lt 0 (price_of (r ∷ rs)) ≡ true
has_price r rs = cube_positive (length (r ∷ rs)) (omega arith)

length_shown : (around : List Range) (r : Range) (left : ℕ)
    → (search_long (record { around = around; place = of_range r }) 0).found ≡ true
    → (search_long (record { around = around; place = of_range r }) left).found ≡ true
length_shown [] r left h = h
length_shown (a ∷ more) r left h =
    inside_shown (price_of (a ∷ more)) (length_form (ends_of (names_in [] (a ∷ more)) r)) (pos 100) (ends_of [] a)
    (nest_of (a.name ∷ []) more) [] left (has_price a more) h

length_left : (around : List Range) (r : Range)
    → (search_long (record { around = around; place = of_range r }) 0).left ≡ 0
length_left [] r = refl
length_left (a ∷ more) r =
    inside_left (price_of (a ∷ more)) (length_form (ends_of (names_in [] (a ∷ more)) r)) (pos 100) (ends_of [] a)
    (nest_of (a.name ∷ []) more) [] (has_price a more)

place_shown : (i : Inside) (left : ℕ) → (search_long i 0).found ≡ true → (search_long i left).found ≡ true
place_shown i left = go i.place
  where
    go : (p : Place) → (search_long (record { around = i.around; place = p }) 0).found ≡ true
        → (search_long (record { around = i.around; place = p }) left).found ≡ true
    go (of_ref x) h = h
    go (of_range r) h = length_shown i.around r left h

place_left : (i : Inside) → (search_long i 0).left ≡ 0
place_left i = go i.place
  where
    go : (p : Place) → (search_long (record { around = i.around; place = p }) 0).left ≡ 0
    go (of_ref x) = refl
    go (of_range r) = length_left i.around r

-- ---- place by place
-- one of two searches
found_first : (s : Searched) (next : ℕ → Searched) → s.found ≡ true → (search_on s next).found ≡ true
found_first s next h = ap (λ (t : Bool). (if t then s else next s.left).found) h ∙ h

found_behind : (s : Searched) (next : ℕ → Searched) → ((left : ℕ) → (next left).found ≡ true)
    → (search_on s next).found ≡ true
found_behind s next h = go s.found refl
  where
    go : (t : Bool) → s.found ≡ t → (search_on s next).found ≡ true
    go true e = found_first s next e
    go false e = ap (λ (t : Bool). (if t then s else next s.left).found) e ∙ h s.left

pub places_shown : (is : List Inside) (left : ℕ) → (search_places search_long is 0).found ≡ true
    → (search_places search_long is left).found ≡ true
places_shown [] left h = h
places_shown (i ∷ is) left h = go (places_shown is) (search_long i 0).found refl
  where
    go : ((left : ℕ) → (search_places search_long is 0).found ≡ true
        → (search_places search_long is left).found ≡ true)
        → (t : Bool) → (search_long i 0).found ≡ t
        → (search_on (search_long i left) (search_places search_long is)).found ≡ true
    go so true e = found_first (search_long i left) (search_places search_long is) (place_shown i left e)
    go so false e =
        let behind : (search_places search_long is 0).found ≡ true =
        ap (λ (n : ℕ). (search_places search_long is n).found) (sym (place_left i))
        ∙ sym
        (ap (λ (t : Bool). (if t then search_long i 0 else search_places search_long is (search_long i 0).left).found)
        e)
        ∙ h in
        found_behind (search_long i left) (search_places search_long is) (λ left. so left behind)

-- what is found is there
pub places_long : (is : List Inside) (left : ℕ) → (search_places search_long is left).found ≡ true
    → list_any is_long is ≡ true
places_long [] left h = h
places_long (i ∷ is) left h = go (places_long is) (search_long i left).found refl
  where
    go : ((left : ℕ) → (search_places search_long is left).found ≡ true → list_any is_long is ≡ true)
        → (t : Bool) → (search_long i left).found ≡ t → (is_long i || list_any is_long is) ≡ true
    go so true e = or_left (is_long i) (list_any is_long is) (long_found i left e)
    go so false e =
        or_right (is_long i) (list_any is_long is)
        (so (search_long i left).left
        (sym (ap (λ (t : Bool).
        (if t then search_long i left else search_places search_long is (search_long i left).left).found) e) ∙ h))

-- ---- the fault that is named
module _ (limit : ℕ) (words : List Name) (is_declared : ℕ → Bool) (total : ℕ) (s : Indexed Tree)
    (shown : (search_places search_long (places s) 0).found ≡ true) where
  pub shown_named : named limit words is_declared total s ≡ Some
      (long_fault (list_any (is_unknown is_declared) (places s)))
  shown_named = go (has_room limit words is_declared total s) (list_any (is_unknown is_declared) (places s)) refl refl
    where
      go : (r u : Bool) → has_room limit words is_declared total s ≡ r
          → list_any (is_unknown is_declared) (places s) ≡ u
          → named limit words is_declared total s ≡ Some (long_fault (list_any (is_unknown is_declared) (places s)))
      go true true r u =
          first_unknown limit words is_declared total s r u ∙ ap (λ (b : Bool). Some (long_fault b)) (sym u)
      go true false r u =
          first_long limit words is_declared total s r u (places_long (places s) 0 shown)
          ∙ ap (λ (b : Bool). Some (long_fault b)) (sym u)
      go false true r u =
          no_room limit words is_declared total s r index_unknown
          (crowded_unknown limit words is_declared total s u) ∙ ap (λ (b : Bool). Some (long_fault b)) (sym u)
      go false false r u =
          no_room limit words is_declared total s r range_too_long
          (crowded_long limit words is_declared total s u (places_shown (places s) effort shown))
          ∙ ap (λ (b : Bool). Some (long_fault b)) (sym u)
