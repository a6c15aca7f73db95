-- What is found on the walk through a statement is what a search of its places finds.
use Rattle.std.proofs.Common.{◌≡◌, ℕ, ◌*◌, Bool, true, false, List, [], ◌∷◌, ◌++◌, Option, Some, None, map, refl, sym, ap, ◌∙◌, append_assoc}
use Rattle.std.proofs.lemmas.List.{append-nil}
use Rattle.std.specs.Prelude.{pos, ◌||◌, if◌then◌else◌}
use Rattle.std.specs.List.{list_any}
use Rattle.rob_index.specs.Statements.{Index, Ref, Range, Tree, TreeParts, TreeFactors, Ranged, Sides, Indexed, uncertain, over, set, budget, variable, adaptive, goal, row}
use Rattle.rob_index.specs.Statements as stated
use Rattle.rob_index.specs.Expansion.{ranges_of}
use Rattle.rob_index.specs.Forms.{minus, length_form}
use Rattle.rob_index.specs.Places.{Inside, of_index, ref_places, optional_places, range_place, under, range_places, tree_places, part_places, factor_places, each_places, sides_places, inner_places, places}
use Rattle.rob_index.specs.Rules.{is_unknown, has_great}
use Rattle.rob_index.specs.Search.{Searched, search_on, search, search_places, price_of, search_out, missed}
use Rattle.rob_index.specs.Fast.{nothing, index_form, ends_of, nest_of, names_in}
use Rattle.rob_places.specs.declared.test.Test.{Test}
use Rattle.rob_places.specs.declared.test.Test.TheVariants.{Unknown, GreatDigits, SoughtLong, Out}
use Rattle.rob_places.specs.Around.{Around, nothing_around, around_of}
use Rattle.rob_places.specs.Tests.{told, test_of, price, sought_out_in, at_index, is_unknown_in, at_range}
use Rattle.rob_places.specs.Walk.{walk_indices, walk_optional, walk_tree, walk_parts, walk_factors, walk_item, walk_each, walk_sides, walk_inner, walk_inside}
use Rattle.rob_places.proofs.AroundLemmas.{names_length, inside_is, binds_is, has_loose_is}

-- ---- one search behind another
pub on_on : (s : Searched) (f g : ℕ → Searched)
    → search_on (search_on s f) g ≡ search_on s (λ left. search_on (f left) g)
on_on s f g = go s.found s.left
  where
    go : (b : Bool) (left : ℕ)
        → search_on (search_on (record { found = b; left = left }) f) g
        ≡ search_on (record { found = b; left = left }) (λ left. search_on (f left) g)
    go true left = refl
    go false left = refl

pub places_on : (test : Inside → ℕ → Searched) (is js : List Inside) (left : ℕ)
    → search_on (search_places test is left) (search_places test js) ≡ search_places test (is ++ js) left
places_on test [] js left = refl
places_on test (i ∷ is) js left =
    on_on (test i left) (search_places test is) (search_places test js)
    ∙ (λ k. search_on (test i left) (λ left. places_on test is js left k))

-- a test that costs nothing finds what is there
pub told_any : (test : Inside → Bool) (is : List Inside) (left : ℕ)
    → (search_places (λ i left. told (test i) left) is left).found ≡ list_any test is
told_any test [] left = refl
told_any test (i ∷ is) left = go (test i) (told_any test is left)
  where
    go : (b : Bool) → (search_places (λ i left. told (test i) left) is left).found ≡ list_any test is
        → (search_on (told b left) (search_places (λ i left. told (test i) left) is)).found ≡ (b || list_any test is)
    go true h = refl
    go false h = h

-- a search behind a test that costs nothing
module _ (test : Inside → Bool) (seek : Inside → ℕ → Searched) where
  abbrev pub either : Inside → ℕ → Searched
  either i left = if test i then told true left else seek i left

  pub found_either : (is : List Inside) (left : ℕ)
      → (search_places either is left).found ≡ (list_any test is || (search_places seek is left).found)
  found_either [] left = refl
  found_either (i ∷ is) left = go (test i) (seek i left).found (seek i left).left (found_either is)
    where
      go : (b f : Bool) (next : ℕ)
          → ((left : ℕ) → (search_places either is left).found
          ≡ (list_any test is || (search_places seek is left).found))
          → (search_on (if b then told true left else record { found = f; left = next })
          (search_places either is)).found
          ≡ ((b || list_any test is)
          || (search_on (record { found = f; left = next }) (search_places seek is)).found)
      go true f next h = refl
      go false true next h = by (list_any test is)
        where
          by : (b : Bool) → true ≡ (b || true)
          by true = refl
          by false = refl
      go false false next h = h next

-- ---- at a place
told_or_missed : (left : ℕ) (b : Bool) → told b left ≡ (if b then told true left else missed left)
told_or_missed left true = refl
told_or_missed left false = refl

price_is : (above : List Range) → price (around_of above) ≡ price_of above
price_is above = ap (λ (n : ℕ). n * (n * n)) (names_length above)

sought_out_is : (above : List Range) (x : Index) (left : ℕ)
    → sought_out_in (around_of above) x left ≡ search_out (of_index above x) left
sought_out_is above x left = λ i.
    search_on
    (search (price_is above i) (nest_of [] above) [] (minus nothing (index_form (names_in [] above) x)) (pos 1) left)
    (search (price_is above i) (nest_of [] above) [] (index_form (names_in [] above) x) (pos 1000))

pub index_is : (is_declared : ℕ → Bool) (test : Test) (above : List Range) (x : Index) (left : ℕ)
    → at_index test (around_of above) x left ≡ test_of is_declared test (of_index above x) left
index_is d Unknown above x left = ap (λ (b : Bool). told b left) (has_loose_is d above x)
index_is d GreatDigits above x left = refl
index_is d SoughtLong above x left = refl
index_is d Out above x left =
    ap (λ (s : Searched). if has_great x then told true left else s) (sought_out_is above x left)

unknown_is : (is_declared : ℕ → Bool) (above : List Range) (r : Range)
    → is_unknown_in is_declared (around_of above) r ≡ is_unknown is_declared (range_place above r)
unknown_is is_declared above r = λ i.
    (has_loose_is is_declared above r.from i || has_loose_is is_declared above r.upto i)
    || (binds_is is_declared above r.name i || is_declared r.name)

pub range_is : (is_declared : ℕ → Bool) (test : Test) (above : List Range) (r : Range) (left : ℕ)
    → at_range is_declared test (around_of above) r left ≡ test_of is_declared test (range_place above r) left
range_is d Unknown above r left = ap (λ (b : Bool). told b left) (unknown_is d above r)
range_is d GreatDigits above r left = refl
range_is d SoughtLong above r left = λ i.
    search (price_is above i) (nest_of [] above) [] (length_form (ends_of (names_in [] above) r)) (pos 100) left
range_is d Out above r left = told_or_missed left (has_great r.from || has_great r.upto)

-- ---- along a statement
module _ (is_declared : ℕ → Bool) (test : Test) where
  abbrev seek : Inside → ℕ → Searched
  seek = test_of is_declared test

  pub indices_are : (above : List Range) (xs : List Index) (left : ℕ)
      → walk_indices test (around_of above) xs left
      ≡ search_places seek (map (of_index above) xs) left
  indices_are above [] left = refl
  indices_are above (x ∷ xs) left =
      λ i. search_on (index_is is_declared test above x left i) (λ left. indices_are above xs left i)

  pub optional_is : (above : List Range) (o : Option Ref) (left : ℕ)
      → walk_optional test (around_of above) o left ≡ search_places seek (optional_places above o) left
  optional_is above None left = refl
  optional_is above (Some r) left = indices_are above r.indices left

  mutual
    pub tree_is : (above : List Range) (t : Tree) (left : ℕ)
        → walk_tree is_declared test (around_of above) t left ≡ search_places seek (tree_places above t) left
    tree_is above (stated.number n) left = refl
    tree_is above (stated.ref r) left = indices_are above r.indices left
    tree_is above (stated.sum ts) left = parts_are above ts left
    tree_is above (stated.product fs) left = factors_are above fs left
    tree_is above (stated.ranged r t) left =
        λ i. search_on (range_is is_declared test above r left i)
        (λ left. (ap (λ (a : Around). walk_tree is_declared test a t left) (inside_is above r)
        ∙ tree_is (under above r) t left) i)

    pub parts_are : (above : List Range) (ts : TreeParts) (left : ℕ)
        → walk_parts is_declared test (around_of above) ts left ≡ search_places seek (part_places above ts) left
    parts_are above stated.no_parts left = refl
    parts_are above (stated.part minus t ts) left =
        (λ i. search_on (tree_is above t left i) (λ left. parts_are above ts left i))
        ∙ places_on seek (tree_places above t) (part_places above ts) left

    pub factors_are : (above : List Range) (ts : TreeFactors) (left : ℕ)
        → walk_factors is_declared test (around_of above) ts left ≡ search_places seek (factor_places above ts) left
    factors_are above stated.no_factors left = refl
    factors_are above (stated.factor t ts) left =
        (λ i. search_on (tree_is above t left i) (λ left. factors_are above ts left i))
        ∙ places_on seek (tree_places above t) (factor_places above ts) left

  item_is : (above rs : List Range) (name : Ref) (left : ℕ)
      → walk_item is_declared test (around_of above) rs name left
      ≡ search_places seek (range_places above rs ++ ref_places (above ++ rs) name) left
  item_is above [] name left =
      indices_are above name.indices left
      ∙ ap (λ (rs : List Range). search_places seek (ref_places rs name) left) (sym (append-nil above))
  item_is above (r ∷ rs) name left =
      (λ i. search_on (range_is is_declared test above r left i)
      (λ left. (ap (λ (a : Around). walk_item is_declared test a rs name left) (inside_is above r)
      ∙ item_is (under above r) rs name left
      ∙ ap (λ (qs : List Range). search_places seek (range_places (under above r) rs ++ ref_places qs name) left)
      (append_assoc above (r ∷ []) rs)) i))

  pub each_are : {A : Type 0} (ref : A → Ref) (above : List Range) (xs : List (Ranged A)) (left : ℕ)
      → walk_each is_declared test ref (around_of above) xs left ≡ search_places seek (each_places ref above xs) left
  each_are ref above [] left = refl
  each_are ref above (x ∷ xs) left =
      (λ i. search_on (item_is above x.ranges (ref x.item) left i) (λ left. each_are ref above xs left i))
      ∙ places_on seek (range_places above x.ranges ++ ref_places (above ++ x.ranges) (ref x.item))
      (each_places ref above xs) left

  sides_are : (above : List Range) (s : Sides Tree) (left : ℕ)
      → walk_sides is_declared test (around_of above) s left ≡ search_places seek (sides_places above s) left
  sides_are above s left =
      (λ i. search_on (tree_is above s.left left i)
      (λ left. ((λ k. search_on (tree_is above s.right left k) (λ left. optional_is above s.over left k))
      ∙ places_on seek (tree_places above s.right) (optional_places above s.over) left) i))
      ∙ places_on seek (tree_places above s.left) (tree_places above s.right ++ optional_places above s.over) left

  inner_is : (s : Indexed Tree) (left : ℕ)
      → walk_inner is_declared test (around_of (ranges_of s)) s left ≡ search_places seek (inner_places s) left
  inner_is (uncertain r b rs) left = indices_are rs r.indices left
  inner_is (over r rs) left = indices_are rs r.indices left
  inner_is (set s rs) left = sides_are rs s left
  inner_is (budget n ms o) left =
      (λ i. search_on (each_are (λ m. m.name) [] ms left i) (λ left. optional_is [] o left i))
      ∙ places_on seek (each_places (λ m. m.name) [] ms) (optional_places [] o) left
  inner_is (variable r b rs) left = indices_are rs r.indices left
  inner_is (adaptive r on b rs) left =
      (λ i. search_on (indices_are rs r.indices left i) (λ left. each_are (λ r. r) rs on left i))
      ∙ places_on seek (ref_places rs r) (each_places (λ r. r) rs on) left
  inner_is (goal s e o rs) left =
      (λ i. search_on (tree_is rs e left i) (λ left. optional_is rs o left i))
      ∙ places_on seek (tree_places rs e) (optional_places rs o) left
  inner_is (row r s rs) left =
      (λ i. search_on (indices_are rs r.indices left i) (λ left. sides_are rs s left i))
      ∙ places_on seek (ref_places rs r) (sides_places rs s) left

  inside_are : (above rs : List Range) (s : Indexed Tree) (left : ℕ) → above ++ rs ≡ ranges_of s
      → walk_inside is_declared test (around_of above) rs s left
      ≡ search_places seek (range_places above rs ++ inner_places s) left
  inside_are above [] s left e =
      ap (λ (rs : List Range). walk_inner is_declared test (around_of rs) s left) (sym (append-nil above) ∙ e)
      ∙ inner_is s left
  inside_are above (r ∷ rs) s left e =
      λ i. search_on (range_is is_declared test above r left i)
      (λ left. (ap (λ (a : Around). walk_inside is_declared test a rs s left) (inside_is above r)
      ∙ inside_are (under above r) rs s left (append_assoc above (r ∷ []) rs ∙ e)) i)

  -- the walk through a statement
  pub walk_is : (s : Indexed Tree) (left : ℕ)
      → walk_inside is_declared test nothing_around (ranges_of s) s left ≡ search_places seek (places s) left
  walk_is s left = inside_are [] (ranges_of s) s left refl
