-- How the places of a statement are gone through, in their order: each test in turn, until one finds something.
use Rattle.std.specs.Prelude.{ℕ, Bool, List, [], ◌∷◌, Option, Some, None}
use Rattle.rob_index.specs.Statements.{Index, Ref, Range, Tree, TreeParts, TreeFactors, Ranged, Sides, Indexed, uncertain, over, set, budget, variable, adaptive, goal, row}
use Rattle.rob_index.specs.Statements as stated
use Rattle.rob_index.specs.Search.{Searched, missed, search_on}
use Rattle.rob_places.specs.declared.test.Test.{Test}
use Rattle.rob_places.specs.Around.{Around, inside}
use Rattle.rob_places.specs.Tests.{at_index, at_range}

module _ (test : Test) where
  -- indices
  abbrev pub walk_indices : Around → List Index → ℕ → Searched
  walk_indices a [] left = missed left
  walk_indices a (x ∷ xs) left = search_on (at_index test a x left) (walk_indices a xs)

  -- a ref that may be missing
  abbrev pub walk_optional : Around → Option Ref → ℕ → Searched
  walk_optional a None left = missed left
  walk_optional a (Some r) left = walk_indices a r.indices left

module _ (is_declared : ℕ → Bool) (test : Test) where
  abbrev mutual
    pub walk_tree : Around → Tree → ℕ → Searched
    walk_tree a (stated.number n) left = missed left
    walk_tree a (stated.ref r) left = walk_indices test a r.indices left
    walk_tree a (stated.sum ts) left = walk_parts a ts left
    walk_tree a (stated.product fs) left = walk_factors a fs left
    walk_tree a (stated.ranged r t) left = search_on (at_range is_declared test a r left) (walk_tree (inside a r) t)

    pub walk_parts : Around → TreeParts → ℕ → Searched
    walk_parts a stated.no_parts left = missed left
    walk_parts a (stated.part minus t ts) left = search_on (walk_tree a t left) (walk_parts a ts)

    pub walk_factors : Around → TreeFactors → ℕ → Searched
    walk_factors a stated.no_factors left = missed left
    walk_factors a (stated.factor t ts) left = search_on (walk_tree a t left) (walk_factors a ts)

  -- an item's ranges, each inside those before it, then its name inside them
  abbrev pub walk_item : Around → List Range → Ref → ℕ → Searched
  walk_item a [] name left = walk_indices test a name.indices left
  walk_item a (r ∷ rs) name left = search_on (at_range is_declared test a r left) (walk_item (inside a r) rs name)

  -- items, by the name of each
  abbrev pub walk_each : {A : Type 0} → (A → Ref) → Around → List (Ranged A) → ℕ → Searched
  walk_each ref a [] left = missed left
  walk_each ref a (x ∷ xs) left = search_on (walk_item a x.ranges (ref x.item) left) (walk_each ref a xs)

  -- both sides, then the ref behind `over`
  abbrev pub walk_sides : Around → Sides Tree → ℕ → Searched
  walk_sides a s left =
      search_on (walk_tree a s.left left) (λ left. search_on (walk_tree a s.right left) (walk_optional test a s.over))

  -- what stands inside the ranges of a statement
  abbrev pub walk_inner : Around → Indexed Tree → ℕ → Searched
  walk_inner a (uncertain r b rs) left = walk_indices test a r.indices left
  walk_inner a (over r rs) left = walk_indices test a r.indices left
  walk_inner a (set s rs) left = walk_sides a s left
  walk_inner a (budget n ms o) left = search_on (walk_each (λ m. m.name) a ms left) (walk_optional test a o)
  walk_inner a (variable r b rs) left = walk_indices test a r.indices left
  walk_inner a (adaptive r on b rs) left = search_on (walk_indices test a r.indices left) (walk_each (λ r. r) a on)
  walk_inner a (goal s e o rs) left = search_on (walk_tree a e left) (walk_optional test a o)
  walk_inner a (row r s rs) left = search_on (walk_indices test a r.indices left) (walk_sides a s)

  -- the same inside ranges
  abbrev pub walk_inside : Around → List Range → Indexed Tree → ℕ → Searched
  walk_inside a [] s left = walk_inner a s left
  walk_inside a (r ∷ rs) s left = search_on (at_range is_declared test a r left) (walk_inside (inside a r) rs s)
