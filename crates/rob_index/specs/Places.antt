-- Where the rules of indices look: the places of a statement, in the order in which it is written.
use Rattle.std.specs.Prelude.{List, [], ◌∷◌, ◌++◌, map, Option, Some, None}
use Rattle.rob_index.specs.Statements.{Index, Ref, Range, Tree, TreeParts, TreeFactors, Ranged, Sides, Indexed, uncertain, over, set, budget, variable, adaptive, goal, row}
use Rattle.rob_index.specs.Statements as stated
use Rattle.rob_index.specs.Expansion.{ranges_of}

-- what is looked at in a statement: each index and each range, with the ranges that bind it, the outermost first
pub data Place : Type 0 where
  -- an index of a ref
  of_ref : Index → Place
  -- a range
  of_range : Range → Place

-- a place, and the ranges that bind it, the outermost first
pub record Inside : Type 0 where
  pub around : List Range
  pub place : Place

-- an index with the ranges around it
abbrev pub of_index : List Range → Index → Inside
of_index above x = record { around = above; place = of_ref x }

-- the indices of a ref
abbrev pub ref_places : List Range → Ref → List Inside
ref_places above r = map (of_index above) r.indices

-- those of a ref that may be missing
abbrev pub optional_places : List Range → Option Ref → List Inside
optional_places above None = []
optional_places above (Some r) = ref_places above r

-- a range with the ranges around it
abbrev pub range_place : List Range → Range → Inside
range_place above r = record { around = above; place = of_range r }

-- one range more
abbrev pub under : List Range → Range → List Range
under above r = above ++ r ∷ []

-- ranges that stand together, each inside those before it
abbrev pub range_places : List Range → List Range → List Inside
range_places above [] = []
range_places above (r ∷ rs) = range_place above r ∷ range_places (under above r) rs

abbrev mutual
  pub tree_places : List Range → Tree → List Inside
  tree_places above (stated.number n) = []
  tree_places above (stated.ref r) = ref_places above r
  tree_places above (stated.sum ts) = part_places above ts
  tree_places above (stated.product ts) = factor_places above ts
  tree_places above (stated.ranged r t) = range_place above r ∷ tree_places (under above r) t

  pub part_places : List Range → TreeParts → List Inside
  part_places above stated.no_parts = []
  part_places above (stated.part minus t ts) = tree_places above t ++ part_places above ts

  pub factor_places : List Range → TreeFactors → List Inside
  factor_places above stated.no_factors = []
  factor_places above (stated.factor t ts) = tree_places above t ++ factor_places above ts

-- items with their ranges: these, then the name of the item inside them
abbrev pub each_places : {A : Type 0} → (A → Ref) → List Range → List (Ranged A) → List Inside
each_places ref above [] = []
each_places ref above (x ∷ xs) =
    (range_places above x.ranges ++ ref_places (above ++ x.ranges) (ref x.item)) ++ each_places ref above xs

-- both sides, then the ref behind `over`
abbrev pub sides_places : List Range → Sides Tree → List Inside
sides_places above s = tree_places above s.left ++ (tree_places above s.right ++ optional_places above s.over)

-- what stands inside the ranges of the statement
abbrev pub inner_places : Indexed Tree → List Inside
inner_places (uncertain r b rs) = ref_places rs r
inner_places (over r rs) = ref_places rs r
inner_places (set s rs) = sides_places rs s
inner_places (budget n ms o) = each_places (λ m. m.name) [] ms ++ optional_places [] o
inner_places (variable r b rs) = ref_places rs r
inner_places (adaptive r on b rs) = ref_places rs r ++ each_places (λ r. r) rs on
inner_places (goal s e o rs) = tree_places rs e ++ optional_places rs o
inner_places (row r s rs) = ref_places rs r ++ sides_places rs s

-- all of a statement
abbrev pub places : Indexed Tree → List Inside
places s = range_places [] (ranges_of s) ++ inner_places s
