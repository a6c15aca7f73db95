-- What of a statement has tokens in each setting of its ranges: so many in any, those of its expressions, and those of
-- the items of its list.
use Rattle.std.specs.Prelude.{◌≡◌, ℕ, ◌+◌, List, [], ◌∷◌, map, Option, Some, None}
use Rattle.std.specs.Option.{option_map}
use Rattle.rob_index.specs.Statements as stated
use Rattle.rob_index.specs.Statements.{Range, Ranged, Share, Ref, Tree, Indexed}
use Rattle.rob_index.specs.Expansion.{ranges_of}
use Rattle.rob_index.specs.Counting.{number_tokens, signed_tokens, bounds_tokens, over_tokens}
use Rattle.rob_index.specs.Forms.{Ends}
use Rattle.rob_index.specs.Fast.{nest_of, names_in}
use Rattle.rob_settings.specs.declared.item.Item.{Item}
use Rattle.rob_expand.specs.declared.line.Line.{Line}
use Rattle.rob_expand.specs.Placing.{placed_name}
use Rattle.rob_expand.specs.Scopes.{IsPlaced, Pairwise}

-- the expressions of a statement
abbrev pub trees_of : Indexed Tree → List Tree
trees_of (stated.set s rs) = s.left ∷ s.right ∷ []
trees_of (stated.goal s e o rs) = e ∷ []
trees_of (stated.row r s rs) = s.left ∷ s.right ∷ []
trees_of (stated.uncertain r b rs) = []
trees_of (stated.over r rs) = []
trees_of (stated.budget n ms o) = []
trees_of (stated.variable r b rs) = []
trees_of (stated.adaptive r on b rs) = []

-- the name that a statement declares
abbrev pub head_of : Indexed Tree → Option Ref
head_of (stated.uncertain r b rs) = Some r
head_of (stated.over r rs) = Some r
head_of (stated.set s rs) = None
head_of (stated.budget n ms o) = None
head_of (stated.variable r b rs) = Some r
head_of (stated.adaptive r on b rs) = Some r
head_of (stated.goal s e o rs) = None
head_of (stated.row r s rs) = Some r

-- the name behind `over`
abbrev pub over_of : Indexed Tree → Option Ref
over_of (stated.uncertain r b rs) = None
over_of (stated.over r rs) = None
over_of (stated.set s rs) = s.over
over_of (stated.budget n ms o) = o
over_of (stated.variable r b rs) = None
over_of (stated.adaptive r on b rs) = None
over_of (stated.goal s e o rs) = o
over_of (stated.row r s rs) = s.over

-- a name of a list, inside ranges with these names
abbrev pub name_item : List ℕ → Ranged Ref → Item
name_item names x = record {
  name = placed_name (names_in names x.ranges) x.item;
  behind = 0;
  ranges = nest_of names x.ranges;
}

module _ (limit : ℕ) where
  -- a member of a budget: behind its name `at`, its centre, `by`, and its deviation
  abbrev pub member_item : List ℕ → Ranged Share → Item
  member_item names x = record {
    name = placed_name (names_in names x.ranges) x.item.name;
    behind = 2 + (signed_tokens limit x.item.centre + number_tokens limit x.item.deviation);
    ranges = nest_of names x.ranges;
  }

  -- the items of a statement's list
  abbrev pub items_of : List ℕ → Indexed Tree → List Item
  items_of names (stated.budget n ms o) = map (member_item names) ms
  items_of names (stated.adaptive r on b rs) = map (name_item names) on
  items_of names (stated.set s rs) = []
  items_of names (stated.goal s e o rs) = []
  items_of names (stated.row r s rs) = []
  items_of names (stated.uncertain r b rs) = []
  items_of names (stated.over r rs) = []
  items_of names (stated.variable r b rs) = []

  -- what has as many tokens in any setting, the line end among them
  abbrev pub base_of : Indexed Tree → ℕ
  base_of (stated.uncertain r b rs) = 3 + bounds_tokens limit b
  base_of (stated.over r rs) = 3
  base_of (stated.set s rs) = 3 + over_tokens limit s.over
  base_of (stated.budget n ms o) = 3 + (number_tokens limit n + over_tokens limit o)
  base_of (stated.variable r b rs) = 3 + bounds_tokens limit b
  base_of (stated.adaptive r on b rs) = 5 + bounds_tokens limit b
  base_of (stated.goal s e o rs) = 2 + over_tokens limit o
  base_of (stated.row r s rs) = 5 + over_tokens limit s.over

  -- these ranges as forms, and inside them so many tokens, this name, these expressions, these items, and this set
  pub record IsParts (rs : List Range) (base : ℕ) (head : Option Ref) (trees : List Tree) (items : List Item)
      (over : Option Ref) (ranges : List Ends) (line : Line) : Type 0 where
    pub ranges_are : ranges ≡ nest_of [] rs
    pub limit_is : line.limit ≡ limit
    pub base_is : line.base ≡ base
    pub head_is : line.head ≡ option_map (placed_name (names_in [] rs)) head
    pub trees_are : Pairwise (IsPlaced [] (names_in [] rs)) line.trees trees
    pub items_are : line.items ≡ items
    pub over_is : line.over ≡ option_map (placed_name (names_in [] rs)) over

  -- the statement has these ranges, and this line in each of their settings
  abbrev pub IsLine : Indexed Tree → List Ends → Line → Type 0
  IsLine s =
      IsParts (ranges_of s) (base_of s) (head_of s) (trees_of s) (items_of (names_in [] (ranges_of s)) s) (over_of s)

-- the line of the statement, whatever the limit of its digits
abbrev pub IsLineOf : Indexed Tree → Line → Type 0
IsLineOf s line = IsLine line.limit s (nest_of [] (ranges_of s)) line
