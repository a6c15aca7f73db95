-- Statements of version 1 among those of version 2, as they are tested.
use Rattle.std.proofs.Common.{◌≡◌, Bool, true, false, List, [], ◌∷◌, Option, Some, None, refl, sym, ap, ◌∙◌}
use Rattle.std.specs.Prelude.{◌&&◌, MatchBool}
use Rattle.rob_index.specs.Statements.{Ref, Tree, TreeParts, TreeFactors, Ranged, Share, Sides, Indexed}
use Rattle.rob_index.specs.Statements as stated
use Rattle.rob_index.specs.Expansion.{IsPlain, ArePlainParts, ArePlainFactors}
use Rattle.rob_index.specs.PlainLines.{IsPlainRanged, HasPlainOver, ArePlainSides, IsPlainLine}
use Rattle.rob_syntax.specs.Plain.{is_nothing, is_plain_tree, are_plain_parts, are_plain_factors, are_plain_members, are_plain_entries, is_plain_over, are_plain_sides, is_plain_line}
use Rattle.rob_index.proofs.LinesRead.ListLemmas.{both_true, true_both}

-- ---- tests and what they say
pub nothing_from : {A : Type 0} (xs : List A) → is_nothing xs ≡ true → xs ≡ []
nothing_from [] h = refl
nothing_from (x ∷ xs) h = cc

nothing_to : {A : Type 0} (xs : List A) → xs ≡ [] → is_nothing xs ≡ true
nothing_to xs h = ap is_nothing h

mutual
  tree_from : (t : Tree) → is_plain_tree t ≡ true → IsPlain t
  tree_from (stated.number n) h = tt
  tree_from (stated.ref r) h = nothing_from r.indices h
  tree_from (stated.sum ts) h = parts_from ts h
  tree_from (stated.product ts) h = factors_from ts h
  tree_from (stated.ranged r t) h = cc

  parts_from : (ts : TreeParts) → are_plain_parts ts ≡ true → ArePlainParts ts
  parts_from stated.no_parts h = tt
  parts_from (stated.part m t ts) h =
      let k = both_true (is_plain_tree t) (are_plain_parts ts) h in (tree_from t k.0, parts_from ts k.1)

  factors_from : (ts : TreeFactors) → are_plain_factors ts ≡ true → ArePlainFactors ts
  factors_from stated.no_factors h = tt
  factors_from (stated.factor t ts) h =
      let k = both_true (is_plain_tree t) (are_plain_factors ts) h in (tree_from t k.0, factors_from ts k.1)

mutual
  tree_to : (t : Tree) → IsPlain t → is_plain_tree t ≡ true
  tree_to (stated.number n) h = refl
  tree_to (stated.ref r) h = nothing_to r.indices h
  tree_to (stated.sum ts) h = parts_to ts h
  tree_to (stated.product ts) h = factors_to ts h
  tree_to (stated.ranged r t) h = absurd h

  parts_to : (ts : TreeParts) → ArePlainParts ts → are_plain_parts ts ≡ true
  parts_to stated.no_parts h = refl
  parts_to (stated.part m t ts) h = true_both (tree_to t h.0) (parts_to ts h.1)

  factors_to : (ts : TreeFactors) → ArePlainFactors ts → are_plain_factors ts ≡ true
  factors_to stated.no_factors h = refl
  factors_to (stated.factor t ts) h = true_both (tree_to t h.0) (factors_to ts h.1)

members_from : (xs : List (Ranged Share)) → are_plain_members xs ≡ true → IsPlainRanged (λ m. m.name) xs
members_from [] h = tt
members_from (x ∷ xs) h =
    let k = both_true (is_nothing x.ranges && is_nothing x.item.name.indices) (are_plain_members xs) h in
    let j = both_true (is_nothing x.ranges) (is_nothing x.item.name.indices) k.0 in
    (nothing_from x.ranges j.0, nothing_from x.item.name.indices j.1, members_from xs k.1)

members_to : (xs : List (Ranged Share)) → IsPlainRanged (λ m. m.name) xs → are_plain_members xs ≡ true
members_to [] h = refl
members_to (x ∷ xs) h =
    true_both (true_both (nothing_to x.ranges h.0) (nothing_to x.item.name.indices h.1)) (members_to xs h.2)

entries_from : (xs : List (Ranged Ref)) → are_plain_entries xs ≡ true → IsPlainRanged (λ r. r) xs
entries_from [] h = tt
entries_from (x ∷ xs) h =
    let k = both_true (is_nothing x.ranges && is_nothing x.item.indices) (are_plain_entries xs) h in
    let j = both_true (is_nothing x.ranges) (is_nothing x.item.indices) k.0 in
    (nothing_from x.ranges j.0, nothing_from x.item.indices j.1, entries_from xs k.1)

entries_to : (xs : List (Ranged Ref)) → IsPlainRanged (λ r. r) xs → are_plain_entries xs ≡ true
entries_to [] h = refl
entries_to (x ∷ xs) h =
    true_both (true_both (nothing_to x.ranges h.0) (nothing_to x.item.indices h.1)) (entries_to xs h.2)

over_from : (o : Option Ref) → is_plain_over o ≡ true → HasPlainOver o
over_from None h = tt
over_from (Some r) h = nothing_from r.indices h

over_to : (o : Option Ref) → HasPlainOver o → is_plain_over o ≡ true
over_to None h = refl
over_to (Some r) h = nothing_to r.indices h

sides_from : (s : Sides Tree) → are_plain_sides s ≡ true → ArePlainSides s
sides_from s h =
    let k = both_true (is_plain_tree s.left && is_plain_tree s.right) (is_plain_over s.over) h in
    let j = both_true (is_plain_tree s.left) (is_plain_tree s.right) k.0 in
    (tree_from s.left j.0, tree_from s.right j.1, over_from s.over k.1)

sides_to : (s : Sides Tree) → ArePlainSides s → are_plain_sides s ≡ true
sides_to s h = true_both (true_both (tree_to s.left h.0) (tree_to s.right h.1)) (over_to s.over h.2)

line_from : (s : Indexed Tree) → is_plain_line s ≡ true → IsPlainLine s
line_from (stated.uncertain r b rs) h =
    let k = both_true (is_nothing r.indices) (is_nothing rs) h in (nothing_from r.indices k.0, nothing_from rs k.1)
line_from (stated.over r rs) h =
    let k = both_true (is_nothing r.indices) (is_nothing rs) h in (nothing_from r.indices k.0, nothing_from rs k.1)
line_from (stated.set s rs) h =
    let k = both_true (are_plain_sides s) (is_nothing rs) h in (sides_from s k.0, nothing_from rs k.1)
line_from (stated.budget n ms o) h =
    let k = both_true (are_plain_members ms) (is_plain_over o) h in (members_from ms k.0, over_from o k.1)
line_from (stated.variable r b rs) h =
    let k = both_true (is_nothing r.indices) (is_nothing rs) h in (nothing_from r.indices k.0, nothing_from rs k.1)
line_from (stated.adaptive r on b rs) h =
    let k = both_true (is_nothing r.indices && are_plain_entries on) (is_nothing rs) h in
    let j = both_true (is_nothing r.indices) (are_plain_entries on) k.0 in
    (nothing_from r.indices j.0, entries_from on j.1, nothing_from rs k.1)
line_from (stated.goal s e o rs) h =
    let k = both_true (is_plain_tree e && is_plain_over o) (is_nothing rs) h in
    let j = both_true (is_plain_tree e) (is_plain_over o) k.0 in
    (tree_from e j.0, over_from o j.1, nothing_from rs k.1)
line_from (stated.row r s rs) h =
    let k = both_true (is_nothing r.indices && are_plain_sides s) (is_nothing rs) h in
    let j = both_true (is_nothing r.indices) (are_plain_sides s) k.0 in
    (nothing_from r.indices j.0, sides_from s j.1, nothing_from rs k.1)

line_to : (s : Indexed Tree) → IsPlainLine s → is_plain_line s ≡ true
line_to (stated.uncertain r b rs) h = true_both (nothing_to r.indices h.0) (nothing_to rs h.1)
line_to (stated.over r rs) h = true_both (nothing_to r.indices h.0) (nothing_to rs h.1)
line_to (stated.set s rs) h = true_both (sides_to s h.0) (nothing_to rs h.1)
line_to (stated.budget n ms o) h = true_both (members_to ms h.0) (over_to o h.1)
line_to (stated.variable r b rs) h = true_both (nothing_to r.indices h.0) (nothing_to rs h.1)
line_to (stated.adaptive r on b rs) h =
    true_both (true_both (nothing_to r.indices h.0) (entries_to on h.1)) (nothing_to rs h.2)
line_to (stated.goal s e o rs) h = true_both (true_both (tree_to e h.0) (over_to o h.1)) (nothing_to rs h.2)
line_to (stated.row r s rs) h = true_both (true_both (nothing_to r.indices h.0) (sides_to s h.1)) (nothing_to rs h.2)

not_line : (s : Indexed Tree) → is_plain_line s ≡ false → IsPlainLine s → ⊥
not_line s h k = let e : false ≡ true = sym h ∙ line_to s k in cc

-- what the test tells
pub plain_told : (s : Indexed Tree) (b : Bool) → b ≡ is_plain_line s → MatchBool b (IsPlainLine s) (IsPlainLine s → ⊥)
plain_told s true is = line_from s (sym is)
plain_told s false is = not_line s (sym is)
