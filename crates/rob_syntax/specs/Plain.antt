-- Whether a statement is one of version 1, as a test: no name has an index, and nothing has a range.
use Rattle.std.specs.Prelude.{Bool, true, false, ◌&&◌, List, [], ◌∷◌, Option, Some, None}
use Rattle.rob_index.specs.Statements.{Ref, Tree, TreeParts, TreeFactors, Ranged, Share, Sides, Indexed}
use Rattle.rob_index.specs.Statements as stated

-- there is nothing
abbrev pub is_nothing : {A : Type 0} → List A → Bool
is_nothing [] = true
is_nothing (x ∷ xs) = false

abbrev mutual
  -- a tree has no index and no sum over a range
  pub is_plain_tree : Tree → Bool
  is_plain_tree (stated.number n) = true
  is_plain_tree (stated.ref r) = is_nothing r.indices
  is_plain_tree (stated.sum ts) = are_plain_parts ts
  is_plain_tree (stated.product ts) = are_plain_factors ts
  is_plain_tree (stated.ranged r t) = false

  pub are_plain_parts : TreeParts → Bool
  are_plain_parts stated.no_parts = true
  are_plain_parts (stated.part minus t ts) = is_plain_tree t && are_plain_parts ts

  pub are_plain_factors : TreeFactors → Bool
  are_plain_factors stated.no_factors = true
  are_plain_factors (stated.factor t ts) = is_plain_tree t && are_plain_factors ts

-- no member has ranges, and no name of one has an index
abbrev pub are_plain_members : List (Ranged Share) → Bool
are_plain_members [] = true
are_plain_members (x ∷ xs) = (is_nothing x.ranges && is_nothing x.item.name.indices) && are_plain_members xs

-- no entry has ranges or an index
abbrev pub are_plain_entries : List (Ranged Ref) → Bool
are_plain_entries [] = true
are_plain_entries (x ∷ xs) = (is_nothing x.ranges && is_nothing x.item.indices) && are_plain_entries xs

-- the name behind `over` has no index
abbrev pub is_plain_over : Option Ref → Bool
is_plain_over None = true
is_plain_over (Some r) = is_nothing r.indices

-- nothing on either side has an index or a range
abbrev pub are_plain_sides : Sides Tree → Bool
are_plain_sides s = (is_plain_tree s.left && is_plain_tree s.right) && is_plain_over s.over

-- the statement is one of version 1
abbrev pub is_plain_line : Indexed Tree → Bool
is_plain_line (stated.uncertain r b rs) = is_nothing r.indices && is_nothing rs
is_plain_line (stated.over r rs) = is_nothing r.indices && is_nothing rs
is_plain_line (stated.set s rs) = are_plain_sides s && is_nothing rs
is_plain_line (stated.budget n ms o) = are_plain_members ms && is_plain_over o
is_plain_line (stated.variable r b rs) = is_nothing r.indices && is_nothing rs
is_plain_line (stated.adaptive r on b rs) = (is_nothing r.indices && are_plain_entries on) && is_nothing rs
is_plain_line (stated.goal s e o rs) = (is_plain_tree e && is_plain_over o) && is_nothing rs
is_plain_line (stated.row r s rs) = (is_nothing r.indices && are_plain_sides s) && is_nothing rs
