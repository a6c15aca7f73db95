-- What is found in one walk through the settings of a line is what the rules 26 and 27 find, place by place.
use Rattle.std.proofs.Common.{◌≡◌, ℕ, Bool, false, List, [], ◌∷◌, ◌++◌, map, Option, Some, None, refl, sym, ap, ◌∙◌, arith}
use Rattle.std.specs.Prelude.{ℤ, pos, negsuc, ◌+ℤ◌, ◌-ℤ◌, nat_lt, int_lt}
use Rattle.std.specs.Option.{option_map}
use Rattle.std.specs.List.{flat_map, list_any}
use Rattle.std.proofs.lemmas.Int.{ints}
use Rattle.rob_index.specs.Statements.{Index, Ref, Range, Tree, TreeParts, TreeFactors, Ranged, Share, Indexed}
use Rattle.rob_index.specs.Statements as stated
use Rattle.rob_index.specs.Expansion.{ranges_of}
use Rattle.rob_index.specs.Rules.{is_long_at, is_out_at, is_long, is_out}
use Rattle.rob_index.specs.Forms.{Ends, value_of, minus, length_form, values_of, extensions}
use Rattle.rob_index.specs.Settings.{Setting, natural, count, settings, index_value}
use Rattle.rob_index.specs.Places.{Inside, of_index, ref_places, optional_places, range_place, under, range_places, tree_places, part_places, factor_places, each_places, sides_places, inner_places, places}
use Rattle.rob_index.specs.Fast.{setting_of, index_form, ends_of, nest_of, names_in}
use Rattle.rob_index.proofs.LinesRead.ListLemmas.{any_same, any_map}
use Rattle.rob_index.proofs.Faults.FormLemmas.{minus_is}
use Rattle.rob_index.proofs.Faults.FastLemmas.{index_is, settings_are, map_flat, flat_same}
use Rattle.rob_index.proofs.Expanding.ExpansionLemmas.{settings-append}
use Rattle.rob_expand.specs.declared.finding.Finding.{Finding}
use Rattle.rob_expand.specs.declared.finding.Finding.TheVariants.{Nothing}
use Rattle.rob_settings.specs.declared.item.Item.{Item}
use Rattle.rob_expand.specs.declared.line.Line.{Line}
use Rattle.rob_settings.specs.declared.item.Named.{Named}
use Rattle.rob_expand.specs.Placing.{placed_name, placed_tree, placed_parts, placed_factors}
use Rattle.rob_expand.specs.Statements.{head_of, over_of, trees_of, items_of, name_item, member_item, IsLine}
use Rattle.rob_expand.specs.Judging.{finding, worse, worst, is_outside, index_found, indices_found, length_found, range_found, ranges_found, tree_found, parts_found, factors_found, optional_found, item_found, line_found, lines_found}
use Rattle.rob_expand.proofs.Values.TreesLemmas.{trees_found}
use Rattle.rob_expand.proofs.Walks.WalkLemmas.{flat_mapped}
use Rattle.rob_expand.proofs.Walks.FindingLemmas.{worse_nothing, worse_assoc, worse_both, worst_nothing, worst_same, worst_append, worst_worse, worst_flat, worst_finding, worst_long, worst_out}

-- ---- settings inside ranges, as lists of values
-- the settings of these ranges are these values of these names
abbrev pub AreSettings : List Range → List ℕ → List (List ℤ) → Type 0
AreSettings above names nest = settings above [] ≡ map (setting_of names) nest

-- more ranges inside
inside_all : (above rs : List Range) (names : List ℕ) (nest : List (List ℤ)) → AreSettings above names nest
    → AreSettings (above ++ rs) (names_in names rs) (flat_map (extensions (nest_of names rs)) nest)
inside_all above rs names nest is =
    settings-append above rs []
    ∙ ap (flat_map (settings rs)) is
    ∙ flat_mapped (settings rs) (setting_of names) nest
    ∙ flat_same (λ vs. settings rs (setting_of names vs))
    (λ vs. map (setting_of (names_in names rs)) (extensions (nest_of names rs) vs)) (settings_are rs names) nest
    ∙ sym (map_flat (setting_of (names_in names rs)) (extensions (nest_of names rs)) nest)

-- what is found at each value of one range more
inside_each : (found : List ℤ → Finding) (r : Ends) (nest : List (List ℤ))
    → worst found (flat_map (extensions (r ∷ [])) nest)
    ≡ worst (λ vs. worst (λ v. found (v ∷ vs)) (values_of r vs)) nest
inside_each found r nest =
    worst_flat found (extensions (r ∷ [])) nest
    ∙ worst_same (λ vs. worst found (extensions (r ∷ []) vs)) (λ vs. worst (λ v. found (v ∷ vs)) (values_of r vs))
    (λ vs. worst_flat found (λ v. (v ∷ vs) ∷ []) (values_of r vs)
    ∙ worst_same (λ v. worst found ((v ∷ vs) ∷ [])) (λ v. found (v ∷ vs)) (λ v. worse_nothing (found (v ∷ vs)))
    (values_of r vs)) nest

-- ---- one place
-- what the rules find at a place
abbrev pub place_found : Inside → Finding
place_found i = finding (is_long i) (is_out i)

over_natural : (z : ℤ) → nat_lt 100 (natural z) ≡ int_lt (pos 100) z
over_natural (pos n) = grind (arith, ints)
over_natural (negsuc n) = grind (arith, ints)

over_length : (a b : ℤ) → nat_lt 100 (count a b) ≡ int_lt (pos 99) (b -ℤ a)
over_length a b = over_natural ((b +ℤ pos 1) -ℤ a) ∙ grind (arith, ints)

long_is : (names : List ℕ) (r : Range) (vs : List ℤ)
    → is_long_at r (setting_of names vs) ≡ int_lt (pos 99) (value_of (length_form (ends_of names r)) vs)
long_is names r vs =
    let a = index_is names vs r.from in
    let b = index_is names vs r.upto in
    let m = minus_is (index_form names r.upto) (index_form names r.from) vs in
    let e : index_value (setting_of names vs) r.upto -ℤ index_value (setting_of names vs) r.from
    ≡ value_of (length_form (ends_of names r)) vs = omega (arith, ints, a, b, m) in
    over_length (index_value (setting_of names vs) r.from) (index_value (setting_of names vs) r.upto)
    ∙ ap (int_lt (pos 99)) e

module _ (above : List Range) (names : List ℕ) (nest : List (List ℤ)) (is : AreSettings above names nest) where
  -- a test of settings is one of values
  test_is : (p : Setting → Bool) → list_any p (settings above []) ≡ list_any (λ vs. p (setting_of names vs)) nest
  test_is p = ap (list_any p) is ∙ any_map p (setting_of names) nest

  range_is : (r : Range) → place_found (range_place above r) ≡ worst (length_found (ends_of names r)) nest
  range_is r =
      ap (λ (b : Bool). finding b false)
      (test_is (is_long_at r)
      ∙ any_same (λ vs. is_long_at r (setting_of names vs))
      (λ vs. int_lt (pos 99) (value_of (length_form (ends_of names r)) vs)) (long_is names r) nest)
      ∙ worst_long (λ vs. int_lt (pos 99) (value_of (length_form (ends_of names r)) vs)) nest

  index_at : (x : Index) → place_found (of_index above x) ≡ worst (index_found (index_form names x)) nest
  index_at x =
      ap (finding false)
      (test_is (is_out_at x)
      ∙ any_same (λ vs. is_out_at x (setting_of names vs)) (λ vs. is_outside (value_of (index_form names x) vs))
      (λ vs. ap is_outside (index_is names vs x)) nest)
      ∙ worst_out (λ vs. is_outside (value_of (index_form names x) vs)) nest

  indices_at : (xs : List Index)
      → worst place_found (map (of_index above) xs) ≡ worst (indices_found (map (index_form names) xs)) nest
  indices_at [] = sym (worst_nothing nest)
  indices_at (x ∷ xs) =
      worse_both (index_at x) (indices_at xs)
      ∙ worst_worse (index_found (index_form names x)) (indices_found (map (index_form names) xs)) nest

  optional_at : (o : Option Ref)
      → worst place_found (optional_places above o) ≡ worst (optional_found (option_map (placed_name names) o)) nest
  optional_at None = sym (worst_nothing nest)
  optional_at (Some r) = indices_at r.indices

  -- a range, and what is found inside it
  inside_at : (r : Range) (inner : List Inside) (found : List ℤ → Finding)
      → worst place_found inner ≡ worst found (flat_map (extensions (ends_of names r ∷ [])) nest)
      → worse (place_found (range_place above r)) (worst place_found inner)
      ≡ worst (range_found (ends_of names r) found) nest
  inside_at r inner found same =
      worse_both (range_is r) (same ∙ inside_each found (ends_of names r) nest)
      ∙ worst_worse (length_found (ends_of names r))
      (λ vs. worst (λ v. found (v ∷ vs)) (values_of (ends_of names r) vs)) nest

-- ---- ranges, and expressions
ranges_at : (rs above : List Range) (names : List ℕ) (nest : List (List ℤ)) → AreSettings above names nest
    → worst place_found (range_places above rs) ≡ worst (ranges_found (nest_of names rs)) nest
ranges_at [] above names nest is = sym (worst_nothing nest)
ranges_at (r ∷ rs) above names nest is =
    inside_at above names nest is r (range_places (under above r) rs) (ranges_found (nest_of (r.name ∷ names) rs))
    (ranges_at rs (under above r) (r.name ∷ names) (flat_map (extensions (ends_of names r ∷ [])) nest)
    (inside_all above (r ∷ []) names nest is))

mutual
  tree_at : (t : Tree) (above : List Range) (names : List ℕ) (nest : List (List ℤ)) → AreSettings above names nest
      → worst place_found (tree_places above t) ≡ worst (tree_found (placed_tree names t)) nest
  tree_at (stated.number n) above names nest is = sym (worst_nothing nest)
  tree_at (stated.ref r) above names nest is = indices_at above names nest is r.indices
  tree_at (stated.sum ts) above names nest is = parts_at ts above names nest is
  tree_at (stated.product ts) above names nest is = factors_at ts above names nest is
  tree_at (stated.ranged r t) above names nest is =
      inside_at above names nest is r (tree_places (under above r) t) (tree_found (placed_tree (r.name ∷ names) t))
      (tree_at t (under above r) (r.name ∷ names) (flat_map (extensions (ends_of names r ∷ [])) nest)
      (inside_all above (r ∷ []) names nest is))

  parts_at : (ts : TreeParts) (above : List Range) (names : List ℕ) (nest : List (List ℤ))
      → AreSettings above names nest
      → worst place_found (part_places above ts) ≡ worst (parts_found (placed_parts names ts)) nest
  parts_at stated.no_parts above names nest is = sym (worst_nothing nest)
  parts_at (stated.part minus t ts) above names nest is =
      worst_append place_found (tree_places above t) (part_places above ts)
      ∙ worse_both (tree_at t above names nest is) (parts_at ts above names nest is)
      ∙ worst_worse (tree_found (placed_tree names t)) (parts_found (placed_parts names ts)) nest

  factors_at : (ts : TreeFactors) (above : List Range) (names : List ℕ) (nest : List (List ℤ))
      → AreSettings above names nest
      → worst place_found (factor_places above ts) ≡ worst (factors_found (placed_factors names ts)) nest
  factors_at stated.no_factors above names nest is = sym (worst_nothing nest)
  factors_at (stated.factor t ts) above names nest is =
      worst_append place_found (tree_places above t) (factor_places above ts)
      ∙ worse_both (tree_at t above names nest is) (factors_at ts above names nest is)
      ∙ worst_worse (tree_found (placed_tree names t)) (factors_found (placed_factors names ts)) nest

-- ---- the parts of a line
-- what the rules find in expressions
abbrev trees_places : List Range → List Tree → Finding
trees_places above ts = worst (λ t. worst place_found (tree_places above t)) ts

module _ (above : List Range) (names : List ℕ) (nest : List (List ℤ)) (is : AreSettings above names nest) where
  trees_at : (ts : List Tree)
      → trees_places above ts ≡ worst (λ vs. worst (λ p. tree_found p vs) (map (placed_tree names) ts)) nest
  trees_at [] = sym (worst_nothing nest)
  trees_at (t ∷ ts) =
      worse_both (tree_at t above names nest is) (trees_at ts)
      ∙ worst_worse (tree_found (placed_tree names t))
      (λ vs. worst (λ p. tree_found p vs) (map (placed_tree names) ts)) nest

  -- an item's ranges, and its name inside them
  item_at : (rs : List Range) (r : Ref)
      → worst place_found (range_places above rs ++ ref_places (above ++ rs) r)
      ≡ worst (λ vs. worse (ranges_found (nest_of names rs) vs)
      (worst (indices_found (map (index_form (names_in names rs)) r.indices)) (extensions (nest_of names rs) vs))) nest
  item_at rs r =
      let fs = map (index_form (names_in names rs)) r.indices in
      worst_append place_found (range_places above rs) (ref_places (above ++ rs) r)
      ∙ worse_both (ranges_at rs above names nest is)
      (indices_at (above ++ rs) (names_in names rs) (flat_map (extensions (nest_of names rs)) nest)
      (inside_all above rs names nest is) r.indices
      ∙ worst_flat (indices_found fs) (extensions (nest_of names rs)) nest)
      ∙ worst_worse (ranges_found (nest_of names rs))
      (λ vs. worst (indices_found fs) (extensions (nest_of names rs) vs)) nest

  -- items, each made so
  items_at : {A : Type 0} (ref : A → Ref) (make : Ranged A → Item)
      → ((x : Ranged A) → (make x).ranges ≡ nest_of names x.ranges)
      → ((x : Ranged A) → (make x).name ≡ placed_name (names_in names x.ranges) (ref x.item))
      → (xs : List (Ranged A))
      → worst place_found (each_places ref above xs) ≡ worst (λ vs. worst (λ x. item_found x vs) (map make xs)) nest
  items_at ref make ranges_are name_is [] = sym (worst_nothing nest)
  items_at ref make ranges_are name_is (x ∷ xs) =
      let rest = each_places ref above xs in
      worst_append place_found (range_places above x.ranges ++ ref_places (above ++ x.ranges) (ref x.item)) rest
      ∙ worse_both
      (item_at x.ranges (ref x.item)
      ∙ (λ i. worst (λ vs. worse (ranges_found (sym (ranges_are x) i) vs)
      (worst (indices_found (sym (name_is x) i).indices) (extensions (sym (ranges_are x) i) vs))) nest))
      (items_at ref make ranges_are name_is xs)
      ∙ worst_worse (item_found (make x)) (λ vs. worst (λ x. item_found x vs) (map make xs)) nest

-- the places of the items of a statement
abbrev list_places : Indexed Tree → List Inside
list_places (stated.budget n ms o) = each_places (λ (m : Share). m.name) [] ms
list_places (stated.adaptive r on b rs) = each_places (λ (x : Ref). x) rs on
list_places (stated.set s rs) = []
list_places (stated.goal s e o rs) = []
list_places (stated.row r s rs) = []
list_places (stated.uncertain r b rs) = []
list_places (stated.over r rs) = []
list_places (stated.variable r b rs) = []

list_at : (limit : ℕ) (s : Indexed Tree) (names : List ℕ) (nest : List (List ℤ)) → AreSettings (ranges_of s) names nest
    → worst place_found (list_places s) ≡ worst (λ vs. worst (λ x. item_found x vs) (items_of limit names s)) nest
list_at limit (stated.budget n ms o) names nest is =
    items_at [] names nest is (λ (m : Share). m.name) (member_item limit names) (λ x. refl) (λ x. refl) ms
list_at limit (stated.adaptive r on b rs) names nest is =
    items_at rs names nest is (λ (x : Ref). x) (name_item names) (λ x. refl) (λ x. refl) on
list_at limit (stated.set s rs) names nest is = sym (worst_nothing nest)
list_at limit (stated.goal s e o rs) names nest is = sym (worst_nothing nest)
list_at limit (stated.row r s rs) names nest is = sym (worst_nothing nest)
list_at limit (stated.uncertain r b rs) names nest is = sym (worst_nothing nest)
list_at limit (stated.over r rs) names nest is = sym (worst_nothing nest)
list_at limit (stated.variable r b rs) names nest is = sym (worst_nothing nest)

-- both sides of a relation, and the set that it is over
sides_are : (above : List Range) (s : stated.Sides Tree)
    → worst place_found (sides_places above s)
    ≡ worse (trees_places above (s.left ∷ s.right ∷ [])) (worst place_found (optional_places above s.over))
sides_are above s =
    let left = worst place_found (tree_places above s.left) in
    let right = worst place_found (tree_places above s.right) in
    let over = worst place_found (optional_places above s.over) in
    worst_append place_found (tree_places above s.left) (tree_places above s.right ++ optional_places above s.over)
    ∙ ap (worse left)
    (worst_append place_found (tree_places above s.right) (optional_places above s.over)
    ∙ ap (λ (a : Finding). worse a over) (sym (worse_nothing right)))
    ∙ sym (worse_assoc left (worse right Nothing) over)

-- what stands inside the ranges of a statement: its name, its expressions, its items, and the name behind `over`
inner_is : (s : Indexed Tree)
    → worst place_found (inner_places s)
    ≡ worse (worst place_found (optional_places (ranges_of s) (head_of s)))
    (worse (trees_places (ranges_of s) (trees_of s))
    (worse (worst place_found (list_places s)) (worst place_found (optional_places (ranges_of s) (over_of s)))))
inner_is (stated.uncertain r b rs) = sym (worse_nothing (worst place_found (ref_places rs r)))
inner_is (stated.over r rs) = sym (worse_nothing (worst place_found (ref_places rs r)))
inner_is (stated.variable r b rs) = sym (worse_nothing (worst place_found (ref_places rs r)))
inner_is (stated.set s rs) = sides_are rs s
inner_is (stated.budget n ms o) =
    worst_append place_found (each_places (λ (m : Share). m.name) [] ms) (optional_places [] o)
inner_is (stated.adaptive r on b rs) =
    worst_append place_found (ref_places rs r) (each_places (λ (x : Ref). x) rs on)
    ∙ ap (worse (worst place_found (ref_places rs r)))
    (sym (worse_nothing (worst place_found (each_places (λ (x : Ref). x) rs on))))
inner_is (stated.goal s e o rs) =
    worst_append place_found (tree_places rs e) (optional_places rs o)
    ∙ ap (λ (a : Finding). worse a (worst place_found (optional_places rs o)))
    (sym (worse_nothing (worst place_found (tree_places rs e))))
inner_is (stated.row r s rs) =
    worst_append place_found (ref_places rs r) (sides_places rs s)
    ∙ ap (worse (worst place_found (ref_places rs r))) (sides_are rs s)

-- ---- all of a statement
module _ (limit : ℕ) (s : Indexed Tree) (ranges : List Ends) (line : Line) (is : IsLine limit s ranges line) where
  abbrev names : List ℕ
  names = names_in [] (ranges_of s)

  -- the line that stands for the statement
  line_is : (vs : List ℤ)
      → worse (optional_found (option_map (placed_name names) (head_of s)) vs)
      (worse (worst (λ p. tree_found p vs) (map (placed_tree names) (trees_of s)))
      (worse (worst (λ x. item_found x vs) (items_of limit names s))
      (optional_found (option_map (placed_name names) (over_of s)) vs)))
      ≡ line_found line vs
  line_is vs =
      let head = ap (λ (o : Option Named). optional_found o vs) (sym is.head_is) in
      let trees = sym (trees_found names line.trees (trees_of s) is.trees_are vs) in
      let items = ap (worst (λ (x : Item). item_found x vs)) (sym is.items_are) in
      let over = ap (λ (o : Option Named). optional_found o vs) (sym is.over_is) in
      worse_both head (worse_both trees (worse_both items over))

  inner_at : (nest : List (List ℤ)) → AreSettings (ranges_of s) names nest
      → worst place_found (inner_places s) ≡ worst (line_found line) nest
  inner_at nest same =
      let rs = ranges_of s in
      let head = λ (vs : List ℤ). optional_found (option_map (placed_name names) (head_of s)) vs in
      let trees = λ (vs : List ℤ). worst (λ p. tree_found p vs) (map (placed_tree names) (trees_of s)) in
      let items = λ (vs : List ℤ). worst (λ x. item_found x vs) (items_of limit names s) in
      let over = λ (vs : List ℤ). optional_found (option_map (placed_name names) (over_of s)) vs in
      inner_is s
      ∙ worse_both (optional_at rs names nest same (head_of s))
      (worse_both (trees_at rs names nest same (trees_of s))
      (worse_both (list_at limit s names nest same) (optional_at rs names nest same (over_of s))
      ∙ worst_worse items over nest)
      ∙ worst_worse trees (λ vs. worse (items vs) (over vs)) nest)
      ∙ worst_worse head (λ vs. worse (trees vs) (worse (items vs) (over vs))) nest
      ∙ worst_same (λ vs. worse (head vs) (worse (trees vs) (worse (items vs) (over vs)))) (line_found line) line_is
      nest

  pub statement_found : lines_found ranges line ≡ finding (list_any is_long (places s)) (list_any is_out (places s))
  statement_found =
      let rs = ranges_of s in
      (λ i. worse (ranges_found (is.ranges_are i) []) (worst (line_found line) (extensions (is.ranges_are i) [])))
      ∙ sym (worse_both (ranges_at rs [] [] ([] ∷ []) refl ∙ worse_nothing (ranges_found (nest_of [] rs) []))
      (inner_at (extensions (nest_of [] rs) []) (settings_are rs [] [])))
      ∙ sym (worst_append place_found (range_places [] rs) (inner_places s))
      ∙ worst_finding is_long is_out (places s)
