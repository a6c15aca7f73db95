-- A line of version 1 stands for itself, and breaks no rule of indices.
use Rattle.std.proofs.Common.{◌≡◌, List, [], ◌∷◌, ◌++◌, map, Option, Some, None, refl, ap, ◌∙◌}
use Rattle.rob_index.specs.Statements.{Name, Member, Statement, Ref, Index, Range, Tree, TreeParts, TreeFactors, Ranged, Share, Sides, Indexed}
use Rattle.rob_index.specs.Statements as stated
use Rattle.rob_index.specs.Settings.{Setting, settings}
use Rattle.rob_index.specs.Expansion.{ref_name, optional_name, member_of, expand_each, statement_at, ranges_of, expand, HasNoIndex, IsPlain, ArePlainParts, ArePlainFactors}
use Rattle.rob_index.specs.PlainLines.{IsPlainRanged, HasPlainOver, ArePlainSides, IsPlainLine, itself_over, itself_members, itself_names, itself_line}
use Rattle.rob_index.specs.Places.{Inside, of_index, ref_places, optional_places, range_places, tree_places, part_places, factor_places, each_places, sides_places, inner_places, places}
use Rattle.rob_index.proofs.Expanding.ExpansionLemmas.{plain_name, itself_is}

module _ (words : List Name) where
  over_is : (setting : Setting) (o : Option Ref) → HasPlainOver o → optional_name words setting o ≡ itself_over words o
  over_is setting None h = refl
  over_is setting (Some r) h = ap (λ (n : Name). Some n) (plain_name words r setting h)

  pub members_are : (setting : Setting) (ms : List (Ranged Share)) → IsPlainRanged (λ m. m.name) ms
      → expand_each (member_of words) setting ms ≡ itself_members words ms
  members_are setting [] h = refl
  members_are setting (m ∷ ms) h =
      let e = ap (λ (rs : List Range). map (λ e. member_of words e m.item) (settings rs setting)) h.0 in
      let n = plain_name words m.item.name setting h.1 in
      let k = members_are setting ms h.2 in
      ap (λ (l : List Member). l ++ expand_each (member_of words) setting ms) e
      ∙ (λ i. record { name = n i; centre = m.item.centre; deviation = m.item.deviation } ∷ k i)

  pub names_are : (setting : Setting) (xs : List (Ranged Ref)) → IsPlainRanged (λ r. r) xs
      → expand_each (ref_name words) setting xs ≡ itself_names words xs
  names_are setting [] h = refl
  names_are setting (x ∷ xs) h =
      let e = ap (λ (rs : List Range). map (λ e. ref_name words e x.item) (settings rs setting)) h.0 in
      let n = plain_name words x.item setting h.1 in
      let k = names_are setting xs h.2 in
      ap (λ (l : List Name). l ++ expand_each (ref_name words) setting xs) e ∙ (λ i. n i ∷ k i)

  pub at_itself : (s : Indexed Tree) (setting : Setting) → IsPlainLine s
      → statement_at words s setting ≡ itself_line words s
  at_itself (stated.uncertain r b rs) setting h =
      ap (λ (n : Name). stated.uncertain n b) (plain_name words r setting h.0)
  at_itself (stated.over r rs) setting h = ap (λ (n : Name). stated.over n) (plain_name words r setting h.0)
  at_itself (stated.set s rs) setting h =
      let l = itself_is words s.left setting h.0.0 in
      let p = itself_is words s.right setting h.0.1 in
      let o = over_is setting s.over h.0.2 in
      (λ i. stated.set (l i) s.rel (p i) (o i))
  at_itself (stated.budget n ms o) setting h =
      let m = members_are setting ms h.0 in
      let k = over_is setting o h.1 in
      (λ i. stated.budget n (m i) (k i))
  at_itself (stated.variable r b rs) setting h = ap (λ (n : Name). stated.variable n b) (plain_name words r setting h.0)
  at_itself (stated.adaptive r on b rs) setting h =
      let n = plain_name words r setting h.0 in
      let k = names_are setting on h.1 in
      (λ i. stated.adaptive (n i) (k i) b)
  at_itself (stated.goal s e o rs) setting h =
      let p = itself_is words e setting h.0 in
      let k = over_is setting o h.1 in
      (λ i. stated.goal s (p i) (k i))
  at_itself (stated.row r s rs) setting h =
      let n = plain_name words r setting h.0 in
      let l = itself_is words s.left setting h.1.0 in
      let p = itself_is words s.right setting h.1.1 in
      let o = over_is setting s.over h.1.2 in
      (λ i. stated.row (n i) (l i) s.rel (p i) (o i))

  no_ranges : (s : Indexed Tree) → IsPlainLine s → ranges_of s ≡ []
  no_ranges (stated.uncertain r b rs) h = h.1
  no_ranges (stated.over r rs) h = h.1
  no_ranges (stated.set s rs) h = h.1
  no_ranges (stated.budget n ms o) h = refl
  no_ranges (stated.variable r b rs) h = h.1
  no_ranges (stated.adaptive r on b rs) h = h.2
  no_ranges (stated.goal s e o rs) h = h.2
  no_ranges (stated.row r s rs) h = h.2

  pub line_itself : (s : Indexed Tree) → IsPlainLine s → expand words s ≡ itself_line words s ∷ []
  line_itself s h = ap (λ (rs : List Range). map (statement_at words s) (settings rs [])) (no_ranges s h)
      ∙ ap (λ (x : Statement). x ∷ []) (at_itself s [] h)

  -- ---- there is no index and no range in it
  no_index : (above : List Range) (r : Ref) → HasNoIndex r → ref_places above r ≡ []
  no_index above r h = ap (λ (l : List Index). map (of_index above) l) h

  no_over : (above : List Range) (o : Option Ref) → HasPlainOver o → optional_places above o ≡ []
  no_over above None h = refl
  no_over above (Some r) h = no_index above r h

  both_empty : {xs ys : List Inside} → xs ≡ [] → ys ≡ [] → xs ++ ys ≡ []
  both_empty e f = λ i. e i ++ f i

  mutual
    no_tree : (above : List Range) (t : Tree) → IsPlain t → tree_places above t ≡ []
    no_tree above (stated.number n) h = refl
    no_tree above (stated.ref r) h = no_index above r h
    no_tree above (stated.sum ts) h = no_parts above ts h
    no_tree above (stated.product ts) h = no_factors above ts h
    no_tree above (stated.ranged r t) h = absurd h

    no_parts : (above : List Range) (ts : TreeParts) → ArePlainParts ts → part_places above ts ≡ []
    no_parts above stated.no_parts h = refl
    no_parts above (stated.part minus t ts) h = both_empty (no_tree above t h.0) (no_parts above ts h.1)

    no_factors : (above : List Range) (ts : TreeFactors) → ArePlainFactors ts → factor_places above ts ≡ []
    no_factors above stated.no_factors h = refl
    no_factors above (stated.factor t ts) h = both_empty (no_tree above t h.0) (no_factors above ts h.1)

  no_each : {A : Type 0} (ref : A → Ref) (above : List Range) (xs : List (Ranged A)) → IsPlainRanged ref xs
      → each_places ref above xs ≡ []
  no_each ref above [] h = refl
  no_each ref above (x ∷ xs) h =
      both_empty (both_empty (ap (range_places above) h.0) (no_index (above ++ x.ranges) (ref x.item) h.1))
      (no_each ref above xs h.2)

  no_sides : (above : List Range) (s : Sides Tree) → ArePlainSides s → sides_places above s ≡ []
  no_sides above s h = both_empty (no_tree above s.left h.0)
      (both_empty (no_tree above s.right h.1) (no_over above s.over h.2))

  no_inner : (s : Indexed Tree) → IsPlainLine s → inner_places s ≡ []
  no_inner (stated.uncertain r b rs) h = no_index rs r h.0
  no_inner (stated.over r rs) h = no_index rs r h.0
  no_inner (stated.set s rs) h = no_sides rs s h.0
  no_inner (stated.budget n ms o) h = both_empty (no_each (λ m. m.name) [] ms h.0) (no_over [] o h.1)
  no_inner (stated.variable r b rs) h = no_index rs r h.0
  no_inner (stated.adaptive r on b rs) h = both_empty (no_index rs r h.0) (no_each (λ r. r) rs on h.1)
  no_inner (stated.goal s e o rs) h = both_empty (no_tree rs e h.0) (no_over rs o h.1)
  no_inner (stated.row r s rs) h = both_empty (no_index rs r h.0) (no_sides rs s h.1)

  -- so rules 25 to 27 don't hold on it
  pub no_places : (s : Indexed Tree) → IsPlainLine s → places s ≡ []
  no_places s h = both_empty (ap (range_places []) (no_ranges s h)) (no_inner s h)
