-- How many indices a name may have. Each is a `_` and a digit at least in the name that it gives, and a name has 32
-- bytes at most: with a 16th index the shortest has 33.
use Rattle.std.specs.Prelude.{ℕ, Bool, true, ◌&&◌, nat_le, List, [], ◌∷◌, length, Option, Some, None}
use Rattle.rob_index.specs.Statements.{Ref, Tree, TreeParts, TreeFactors, Ranged, Sides, Indexed}
use Rattle.rob_index.specs.Statements as stated

-- the indices that a name may have
abbrev pub most_indices : ℕ
most_indices = 15

-- a name has no more
abbrev pub has_few : Ref → Bool
has_few r = nat_le (length r.indices) most_indices

-- so of the name, where there is one
abbrev pub is_few_over : Option Ref → Bool
is_few_over None = true
is_few_over (Some r) = has_few r

abbrev mutual
  -- so of each name in a tree
  pub is_few_tree : Tree → Bool
  is_few_tree (stated.number n) = true
  is_few_tree (stated.ref r) = has_few r
  is_few_tree (stated.sum ts) = are_few_parts ts
  is_few_tree (stated.product ts) = are_few_factors ts
  is_few_tree (stated.ranged r t) = is_few_tree t

  -- so of each part of a sum
  pub are_few_parts : TreeParts → Bool
  are_few_parts stated.no_parts = true
  are_few_parts (stated.part minus t ts) = is_few_tree t && are_few_parts ts

  -- so of each factor of a product
  pub are_few_factors : TreeFactors → Bool
  are_few_factors stated.no_factors = true
  are_few_factors (stated.factor t ts) = is_few_tree t && are_few_factors ts

-- so of the name of each item
abbrev pub are_few_items : {A : Type 0} → (A → Ref) → List (Ranged A) → Bool
are_few_items ref [] = true
are_few_items ref (x ∷ xs) = has_few (ref x.item) && are_few_items ref xs

-- so on both sides, and behind `over`
abbrev pub are_few_sides : Sides Tree → Bool
are_few_sides s = (is_few_tree s.left && is_few_tree s.right) && is_few_over s.over

-- each name of the statement has at most 15 indices
abbrev pub has_few_indices : Indexed Tree → Bool
has_few_indices (stated.uncertain r b rs) = has_few r
has_few_indices (stated.over r rs) = has_few r
has_few_indices (stated.set s rs) = are_few_sides s
has_few_indices (stated.budget n ms o) = are_few_items (λ m. m.name) ms && is_few_over o
has_few_indices (stated.variable r b rs) = has_few r
has_few_indices (stated.adaptive r on b rs) = has_few r && are_few_items (λ r. r) on
has_few_indices (stated.goal s e o rs) = is_few_tree e && is_few_over o
has_few_indices (stated.row r s rs) = has_few r && are_few_sides s
