-- What a statement stands for where its ranges have these values, the innermost first, and an index is printed so. The
-- names are those of its ranges.
use Rattle.std.specs.Prelude.{ℕ, ℤ, List, [], map, Option}
use Rattle.std.specs.Option.{option_map}
use Rattle.std.specs.List.{flat_map}
use Rattle.rob_index.specs.Statements as stated
use Rattle.rob_index.specs.Statements.{Name, Plain, Member, Statement, Ref, Ranged, Share, Tree, Indexed}
use Rattle.rob_index.specs.Expansion.{ranges_of}
use Rattle.rob_index.specs.Forms.{extensions}
use Rattle.rob_index.specs.Fast.{index_form, names_in, nest_of}
use Rattle.rob_expand.specs.Placing.{placed_tree}
use Rattle.rob_expand.specs.Standing.{name_at, plain_at}

module _ (words : List Name) (print : ℤ → ℕ) where
  -- a name
  abbrev pub ref_at : List ℕ → Ref → List ℤ → Name
  ref_at names r vs = name_at words print r.name (map (index_form names) r.indices) vs

  -- an expression
  abbrev pub tree_at : List ℕ → Tree → List ℤ → Plain
  tree_at names t vs = plain_at words print (placed_tree names t) vs

  -- the name behind `over`
  abbrev pub set_at : List ℕ → Option Ref → List ℤ → Option Name
  set_at names o vs = option_map (λ (r : Ref). ref_at names r vs) o

  -- an item for each setting of its own ranges
  abbrev pub each_at : {A B : Type 0} → (List ℕ → A → List ℤ → B) → List ℕ → List (Ranged A) → List ℤ → List B
  each_at make names xs vs =
      flat_map (λ x. map (make (names_in names x.ranges) x.item) (extensions (nest_of names x.ranges) vs)) xs

  -- a member of a budget
  abbrev pub member_at : List ℕ → Share → List ℤ → Member
  member_at names m vs = record { name = ref_at names m.name vs; centre = m.centre; deviation = m.deviation }

  -- a statement
  abbrev pub instance_at : List ℕ → Indexed Tree → List ℤ → Statement
  instance_at names (stated.uncertain r b rs) vs = stated.uncertain (ref_at names r vs) b
  instance_at names (stated.over r rs) vs = stated.over (ref_at names r vs)
  instance_at names (stated.set s rs) vs =
      stated.set (tree_at names s.left vs) s.rel (tree_at names s.right vs) (set_at names s.over vs)
  instance_at names (stated.budget n ms o) vs = stated.budget n (each_at member_at names ms vs) (set_at names o vs)
  instance_at names (stated.variable r b rs) vs = stated.variable (ref_at names r vs) b
  instance_at names (stated.adaptive r on b rs) vs = stated.adaptive (ref_at names r vs) (each_at ref_at names on vs) b
  instance_at names (stated.goal s e o rs) vs = stated.goal s (tree_at names e vs) (set_at names o vs)
  instance_at names (stated.row r s rs) vs =
      stated.row (ref_at names r vs) (tree_at names s.left vs) s.rel (tree_at names s.right vs) (set_at names s.over vs)

  -- a statement by itself
  abbrev pub instance : Indexed Tree → List ℤ → Statement
  instance s vs = instance_at (names_in [] (ranges_of s)) s vs
