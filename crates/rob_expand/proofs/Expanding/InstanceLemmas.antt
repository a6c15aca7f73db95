-- Where no index is out of bounds, each is printed as its value: so what is made of the placed statement is what it
-- stands for.
use Rattle.std.proofs.Common.{◌≡◌, ℕ, Bool, false, List, [], ◌∷◌, ◌++◌, map, get_or, refl, sym, ap, ◌∙◌, subst}
use Rattle.std.specs.Prelude.{ℤ, pos, nat_abs, int_lt, ◌||◌, Option, Some, None, if◌then◌else◌}
use Rattle.std.specs.Fmt.{decimal}
use Rattle.std.specs.List.{flat_map, list_any}
use Rattle.rob_algebra.proofs.ListLemmas.{map_map}
use Rattle.rob_algebra.specs.Items.{Each}
use Rattle.rob_index.specs.Statements.{Name, Parts, Factors, Index, Ref, Range, Tree, TreeParts, TreeFactors, Ranged, Share, Indexed}
use Rattle.rob_index.specs.Statements as stated
use Rattle.rob_index.specs.Settings.{Setting, settings, with_value, index_value}
use Rattle.rob_index.specs.Expansion.{index_text, ref_name, optional_name, summed, expand_each, expand_tree, expand_parts, expand_factors, member_of, ranges_of, statement_at, expand}
use Rattle.rob_index.specs.Membership.{Among, here, there}
use Rattle.rob_index.specs.Rules.{greatest_index, is_out_at, is_out}
use Rattle.rob_index.specs.Places.{ref_places, optional_places, range_places, under, tree_places, part_places, factor_places, each_places, sides_places, inner_places, places}
use Rattle.rob_index.specs.Forms.{Form, value_of, values_of, extensions}
use Rattle.rob_index.specs.Fast.{setting_of, index_form, ends_of, nest_of, names_in}
use Rattle.rob_index.proofs.Faults.FastLemmas.{index_is, values_are, settings_are}
use Rattle.rob_index.proofs.Names.NamingLemmas.{none_both, inside_more, inside_one, indices_within}
use Rattle.rob_expand.specs.Placing.{placed_parts, placed_factors}
use Rattle.rob_expand.specs.Standing.{parts_at, factors_at}
use Rattle.rob_expand.specs.Growing.{printed}
use Rattle.rob_expand.specs.Instances.{ref_at, tree_at, set_at, each_at, member_at, instance_at, instance}
use Rattle.rob_expand.proofs.Walks.WalkLemmas.{join_both}

-- ---- lists
map_among : {A B : Type 0} (f g : A → B) (xs : List A) → ((x : A) → Among x xs → f x ≡ g x) → map f xs ≡ map g xs
map_among f g [] h = refl
map_among f g (x ∷ xs) h =
    let e = h x here in let es = map_among f g xs (λ y m. h y (there m)) in λ i. e i ∷ es i

mapped_among : {A B : Type 0} (f : A → B) (xs : List A) (x : A) → Among x xs → Among (f x) (map f xs)
mapped_among f [] x m = elim m [ ]
mapped_among f (y ∷ xs) x here = here
mapped_among f (y ∷ xs) x (there m) = there (mapped_among f xs x m)

-- ---- indices
-- what is printed of a number within bounds
pub printed_in : (z : ℤ) → (int_lt z (pos 0) || int_lt (pos greatest_index) z) ≡ false → printed z ≡ nat_abs z
printed_in z within = ap (λ (b : Bool). if b then 0 else nat_abs z) within

-- a setting of ranges, from the values in their nest
inside_nest : (rs : List Range) (names : List ℕ) (vs es : List ℤ) → Among es (extensions (nest_of names rs) vs)
    → Among (setting_of (names_in names rs) es) (settings rs (setting_of names vs))
inside_nest rs names vs es m =
    subst (Among (setting_of (names_in names rs) es)) (sym (settings_are rs names vs))
    (mapped_among (setting_of (names_in names rs)) (extensions (nest_of names rs) vs) es m)

module _ (words : List Name) where
  index_printed : (names : List ℕ) (vs : List ℤ) (x : Index) → is_out_at x (setting_of names vs) ≡ false
      → 95 ∷ decimal (printed (value_of (index_form names x) vs)) ≡ index_text words (setting_of names vs) x
  index_printed names vs x within =
      ap (λ (n : ℕ). 95 ∷ decimal n)
      (ap printed (sym (index_is names vs x)) ∙ printed_in (index_value (setting_of names vs) x) within)

  indices_printed : (names : List ℕ) (vs : List ℤ) (xs : List Index)
      → Each (λ (x : Index). is_out_at x (setting_of names vs) ≡ false) xs
      → flat_map (λ (f : Form). 95 ∷ decimal (printed (value_of f vs))) (map (index_form names) xs)
      ≡ flat_map (index_text words (setting_of names vs)) xs
  indices_printed names vs [] within = refl
  indices_printed names vs (x ∷ xs) within =
      join_both (index_printed names vs x within.0) (indices_printed names vs xs within.1)

  ref_printed : (above : List Range) (names : List ℕ) (r : Ref) (vs : List ℤ)
      → list_any is_out (ref_places above r) ≡ false → Among (setting_of names vs) (settings above [])
      → ref_at words printed names r vs ≡ ref_name words (setting_of names vs) r
  ref_printed above names r vs within m =
      ap (λ (t : List ℕ). get_or words r.name [] ++ t)
      (indices_printed names vs r.indices (indices_within above r.indices within (setting_of names vs) m))

  set_printed : (above : List Range) (names : List ℕ) (o : Option Ref) (vs : List ℤ)
      → list_any is_out (optional_places above o) ≡ false → Among (setting_of names vs) (settings above [])
      → set_at words printed names o vs ≡ optional_name words (setting_of names vs) o
  set_printed above names None vs within m = refl
  set_printed above names (Some r) vs within m = ap (λ (n : Name). Some n) (ref_printed above names r vs within m)

  -- ---- expressions
  mutual
    tree_printed : (above : List Range) (names : List ℕ) (t : Tree) → list_any is_out (tree_places above t) ≡ false
        → (vs : List ℤ) → Among (setting_of names vs) (settings above [])
        → tree_at words printed names t vs ≡ expand_tree words t (setting_of names vs)
    tree_printed above names (stated.number n) within vs m = refl
    tree_printed above names (stated.ref r) within vs m =
        ap (λ (n : Name). stated.name n) (ref_printed above names r vs within m)
    tree_printed above names (stated.sum ts) within vs m =
        ap (λ (ps : Parts). stated.sum ps) (parts_printed above names ts within vs m)
    tree_printed above names (stated.product ts) within vs m =
        ap (λ (ps : Factors). stated.product ps) (factors_printed above names ts within vs m)
    tree_printed above names (stated.ranged r t) within vs m =
        ap summed
        (map_among (λ v. tree_at words printed (r.name ∷ names) t (v ∷ vs))
        (λ v. expand_tree words t (with_value r (setting_of names vs) v)) (values_of (ends_of names r) vs)
        (λ v n.
        tree_printed (under above r) (r.name ∷ names) t within (v ∷ vs)
        (inside_one above r (setting_of names vs) v m (subst (Among v) (sym (values_are names vs r)) n)))
        ∙ ap (map (λ v. expand_tree words t (with_value r (setting_of names vs) v))) (sym (values_are names vs r)))

    parts_printed : (above : List Range) (names : List ℕ) (ts : TreeParts)
        → list_any is_out (part_places above ts) ≡ false
        → (vs : List ℤ) → Among (setting_of names vs) (settings above [])
        → parts_at words printed (placed_parts names ts) vs ≡ expand_parts words ts (setting_of names vs)
    parts_printed above names stated.no_parts within vs m = refl
    parts_printed above names (stated.part minus t ts) within vs m =
        let none = none_both is_out (tree_places above t) (part_places above ts) within in
        let e = tree_printed above names t none.0 vs m in
        let es = parts_printed above names ts none.1 vs m in
        λ i. stated.part minus (e i) (es i)

    factors_printed : (above : List Range) (names : List ℕ) (ts : TreeFactors)
        → list_any is_out (factor_places above ts) ≡ false → (vs : List ℤ)
        → Among (setting_of names vs) (settings above [])
        → factors_at words printed (placed_factors names ts) vs ≡ expand_factors words ts (setting_of names vs)
    factors_printed above names stated.no_factors within vs m = refl
    factors_printed above names (stated.factor t ts) within vs m =
        let none = none_both is_out (tree_places above t) (factor_places above ts) within in
        let e = tree_printed above names t none.0 vs m in
        let es = factors_printed above names ts none.1 vs m in
        λ i. stated.factor (e i) (es i)

  -- ---- items, each inside its own ranges
  each_printed : {A B : Type 0} (make : List ℕ → A → List ℤ → B) (expanded : Setting → A → B) (ref : A → Ref)
      → ((names : List ℕ) (x : A) (vs : List ℤ)
      → ref_at words printed names (ref x) vs ≡ ref_name words (setting_of names vs) (ref x)
      → make names x vs ≡ expanded (setting_of names vs) x)
      → (above : List Range) (names : List ℕ) (xs : List (Ranged A))
      → list_any is_out (each_places ref above xs) ≡ false
      → (vs : List ℤ) → Among (setting_of names vs) (settings above [])
      → each_at words printed make names xs vs ≡ expand_each expanded (setting_of names vs) xs
  each_printed make expanded ref to above names [] within vs m = refl
  each_printed make expanded ref to above names (x ∷ xs) within vs m =
      let own = range_places above x.ranges in
      let name = ref_places (above ++ x.ranges) (ref x.item) in
      let none = none_both is_out (own ++ name) (each_places ref above xs) within in
      let here_none = (none_both is_out own name none.0).1 in
      let inner = names_in names x.ranges in
      let nest = extensions (nest_of names x.ranges) vs in
      let e =
      map_among (make inner x.item) (λ es. expanded (setting_of inner es) x.item) nest
      (λ es n.
      to inner x.item es
      (ref_printed (above ++ x.ranges) inner (ref x.item) es here_none
      (inside_more above x.ranges (setting_of names vs) (setting_of inner es) m (inside_nest x.ranges names vs es n))))
      ∙ sym (map_map (λ s. expanded s x.item) (setting_of inner) nest)
      ∙ ap (map (λ s. expanded s x.item)) (sym (settings_are x.ranges names vs)) in
      join_both e (each_printed make expanded ref to above names xs none.1 vs m)

  -- ---- statements
  statement_printed : (s : Indexed Tree) (names : List ℕ) → list_any is_out (inner_places s) ≡ false → (vs : List ℤ)
      → Among (setting_of names vs) (settings (ranges_of s) [])
      → instance_at words printed names s vs ≡ statement_at words s (setting_of names vs)
  statement_printed (stated.uncertain r b rs) names within vs m =
      ap (λ (n : Name). stated.uncertain n b) (ref_printed rs names r vs within m)
  statement_printed (stated.over r rs) names within vs m =
      ap (λ (n : Name). stated.over n) (ref_printed rs names r vs within m)
  statement_printed (stated.set s rs) names within vs m =
      let left = none_both is_out (tree_places rs s.left) (tree_places rs s.right ++ optional_places rs s.over) within
      in
      let right = none_both is_out (tree_places rs s.right) (optional_places rs s.over) left.1 in
      let l = tree_printed rs names s.left left.0 vs m in
      let p = tree_printed rs names s.right right.0 vs m in
      let o = set_printed rs names s.over vs right.1 m in
      λ i. stated.set (l i) s.rel (p i) (o i)
  statement_printed (stated.budget n ms o) names within vs m =
      let none = none_both is_out (each_places (λ x. x.name) [] ms) (optional_places [] o) within in
      let members =
      each_printed (member_at words printed) (member_of words) (λ (x : Share). x.name)
      (λ names x vs same. λ i. record { name = same i; centre = x.centre; deviation = x.deviation })
      [] names ms none.0 vs m in
      let over = set_printed [] names o vs none.1 m in
      λ i. stated.budget n (members i) (over i)
  statement_printed (stated.variable r b rs) names within vs m =
      ap (λ (n : Name). stated.variable n b) (ref_printed rs names r vs within m)
  statement_printed (stated.adaptive r on b rs) names within vs m =
      let none = none_both is_out (ref_places rs r) (each_places (λ x. x) rs on) within in
      let name = ref_printed rs names r vs none.0 m in
      let list =
      each_printed (ref_at words printed) (ref_name words) (λ (x : Ref). x) (λ names x vs same. same) rs names on none.1
      vs m in
      λ i. stated.adaptive (name i) (list i) b
  statement_printed (stated.goal s e o rs) names within vs m =
      let none = none_both is_out (tree_places rs e) (optional_places rs o) within in
      let tree = tree_printed rs names e none.0 vs m in
      let over = set_printed rs names o vs none.1 m in
      λ i. stated.goal s (tree i) (over i)
  statement_printed (stated.row r s rs) names within vs m =
      let none = none_both is_out (ref_places rs r) (sides_places rs s) within in
      let left = none_both is_out (tree_places rs s.left) (tree_places rs s.right ++ optional_places rs s.over) none.1
      in
      let right = none_both is_out (tree_places rs s.right) (optional_places rs s.over) left.1 in
      let name = ref_printed rs names r vs none.0 m in
      let l = tree_printed rs names s.left left.0 vs m in
      let p = tree_printed rs names s.right right.0 vs m in
      let o = set_printed rs names s.over vs right.1 m in
      λ i. stated.row (name i) (l i) s.rel (p i) (o i)

  -- all of them
  pub instances_are : (s : Indexed Tree) → list_any is_out (places s) ≡ false
      → map (instance words printed s) (extensions (nest_of [] (ranges_of s)) []) ≡ expand words s
  instances_are s within =
      let names = names_in [] (ranges_of s) in
      let nest = extensions (nest_of [] (ranges_of s)) [] in
      let inner = (none_both is_out (range_places [] (ranges_of s)) (inner_places s) within).1 in
      map_among (instance words printed s) (λ vs. statement_at words s (setting_of names vs)) nest
      (λ vs m. statement_printed s names inner vs (inside_nest (ranges_of s) [] [] vs m))
      ∙ sym (map_map (statement_at words s) (setting_of names) nest)
      ∙ ap (map (statement_at words s)) (sym (settings_are (ranges_of s) [] []))
