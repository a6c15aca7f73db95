-- A line without indices has few of them.
use Rattle.std.proofs.Common.{◌≡◌, true, List, [], ◌∷◌, Option, Some, None, refl, ap}
use Rattle.std.specs.Prelude.{nat_le, length}
use Rattle.rob_index.specs.Statements.{Ref, Index, Tree, TreeParts, TreeFactors, Ranged, Sides, Indexed}
use Rattle.rob_index.specs.Statements as stated
use Rattle.rob_index.specs.Expansion.{HasNoIndex, IsPlain, ArePlainParts, ArePlainFactors}
use Rattle.rob_index.specs.PlainLines.{IsPlainRanged, HasPlainOver, ArePlainSides, IsPlainLine}
use Rattle.rob_index.specs.FewIndices.{most_indices, has_few, is_few_over, is_few_tree, are_few_parts, are_few_factors, are_few_items, are_few_sides, has_few_indices}
use Rattle.rob_index.proofs.LinesRead.ListLemmas.{true_both}

few_ref : (r : Ref) → HasNoIndex r → has_few r ≡ true
few_ref r h = ap (λ (l : List Index). nat_le (length l) most_indices) h

few_over : (o : Option Ref) → HasPlainOver o → is_few_over o ≡ true
few_over None h = refl
few_over (Some r) h = few_ref r h

mutual
  few_tree : (t : Tree) → IsPlain t → is_few_tree t ≡ true
  few_tree (stated.number n) h = refl
  few_tree (stated.ref r) h = few_ref r h
  few_tree (stated.sum ts) h = few_parts ts h
  few_tree (stated.product ts) h = few_factors ts h
  few_tree (stated.ranged r t) h = absurd h

  few_parts : (ts : TreeParts) → ArePlainParts ts → are_few_parts ts ≡ true
  few_parts stated.no_parts h = refl
  few_parts (stated.part minus t ts) h = true_both (few_tree t h.0) (few_parts ts h.1)

  few_factors : (ts : TreeFactors) → ArePlainFactors ts → are_few_factors ts ≡ true
  few_factors stated.no_factors h = refl
  few_factors (stated.factor t ts) h = true_both (few_tree t h.0) (few_factors ts h.1)

few_items : {A : Type 0} (ref : A → Ref) (xs : List (Ranged A)) → IsPlainRanged ref xs → are_few_items ref xs ≡ true
few_items ref [] h = refl
few_items ref (x ∷ xs) h = true_both (few_ref (ref x.item) h.1) (few_items ref xs h.2)

few_sides : (s : Sides Tree) → ArePlainSides s → are_few_sides s ≡ true
few_sides s h = true_both (true_both (few_tree s.left h.0) (few_tree s.right h.1)) (few_over s.over h.2)

pub plain_few : (s : Indexed Tree) → IsPlainLine s → has_few_indices s ≡ true
plain_few (stated.uncertain r b rs) h = few_ref r h.0
plain_few (stated.over r rs) h = few_ref r h.0
plain_few (stated.set s rs) h = few_sides s h.0
plain_few (stated.budget n ms o) h = true_both (few_items (λ m. m.name) ms h.0) (few_over o h.1)
plain_few (stated.variable r b rs) h = few_ref r h.0
plain_few (stated.adaptive r on b rs) h = true_both (few_ref r h.0) (few_items (λ r. r) on h.1)
plain_few (stated.goal s e o rs) h = true_both (few_tree e h.0) (few_over o h.1)
plain_few (stated.row r s rs) h = true_both (few_ref r h.0) (few_sides s h.1)
