-- What holds of the names of a line without indices holds of the names of the plain statement that it is.
use Rattle.std.proofs.Common.{List, [], ◌∷◌}
use Rattle.std.specs.Prelude.{Option, Some, None}
use Rattle.rob_algebra.specs.Items.{Each}
use Rattle.rob_index.specs.Expansion.{itself, itself_factors, itself_parts, word_at}
use Rattle.rob_index.specs.PlainLines.{itself_line, itself_members, itself_names, itself_over}
use Rattle.rob_index.specs.Refs.{EachFactorName, EachFactorRef, EachName, EachNameOf, EachPartName, EachPartRef, EachRef, EachRefOf, IfThere}
use Rattle.rob_index.specs.Statements as stated
use Rattle.rob_index.specs.Statements.{Indexed, Member, Name, Ranged, Ref, Share, Tree, TreeFactors, TreeParts}

module _ (P : Name → Type 0) (words : List Name) where
  -- it holds of the word of the ref's name
  abbrev Names : Ref → Type 0
  Names r = P (word_at words r.name)

  mutual
    tree_itself : (t : Tree) → EachRef Names t → EachName P (itself words t)
    tree_itself (stated.number n) h = tt
    tree_itself (stated.ref r) h = h
    tree_itself (stated.sum ts) h = parts_itself ts h
    tree_itself (stated.product ts) h = factors_itself ts h
    tree_itself (stated.ranged r t) h = tree_itself t h

    parts_itself : (ts : TreeParts) → EachPartRef Names ts → EachPartName P (itself_parts words ts)
    parts_itself stated.no_parts h = tt
    parts_itself (stated.part minus t ts) h = (tree_itself t h.0, parts_itself ts h.1)

    factors_itself : (ts : TreeFactors) → EachFactorRef Names ts → EachFactorName P (itself_factors words ts)
    factors_itself stated.no_factors h = tt
    factors_itself (stated.factor t ts) h = (tree_itself t h.0, factors_itself ts h.1)

  over_itself : (o : Option Ref) → IfThere Names o → IfThere P (itself_over words o)
  over_itself None h = tt
  over_itself (Some r) h = h

  members_itself : (ms : List (Ranged Share)) → Each (λ m. Names m.item.name) ms
      → Each (λ (m : Member). P m.name) (itself_members words ms)
  members_itself [] h = tt
  members_itself (m ∷ ms) h = (h.0, members_itself ms h.1)

  entries_itself : (xs : List (Ranged Ref)) → Each (λ x. Names x.item) xs → Each P (itself_names words xs)
  entries_itself [] h = tt
  entries_itself (x ∷ xs) h = (h.0, entries_itself xs h.1)

  pub line_names : (s : Indexed Tree) → EachRefOf Names s → EachNameOf P (itself_line words s)
  line_names (stated.uncertain r b rs) h = h
  line_names (stated.over r rs) h = h
  line_names (stated.set s rs) h = (tree_itself s.left h.0, tree_itself s.right h.1, over_itself s.over h.2)
  line_names (stated.budget n ms o) h = (members_itself ms h.0, over_itself o h.1)
  line_names (stated.variable r b rs) h = h
  line_names (stated.adaptive r on b rs) h = (h.0, entries_itself on h.1)
  line_names (stated.goal s e o rs) h = (tree_itself e h.0, over_itself o h.1)
  line_names (stated.row r s rs) h =
      (h.0, (tree_itself s.left h.1.0, tree_itself s.right h.1.1, over_itself s.over h.1.2))
