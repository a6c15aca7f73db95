-- What is left of a room behind the canonical line of one setting of a statement.
use Rattle.std.specs.Prelude.{ℕ, ◌+◌, ◌==◌, ◌&&◌, suc, zero, Bool, true, false, ℤ, List, [], ◌∷◌, length, map, Option, Some, None}
use Rattle.rob_index.specs.Forms.{extensions}
use Rattle.rob_index.specs.Counting.{star}
use Rattle.rob_expand.specs.declared.count.Counted.{Counted}
use Rattle.rob_settings.specs.declared.item.Item.{Item}
use Rattle.rob_expand.specs.declared.line.Line.{Line}
use Rattle.rob_settings.specs.Room.{left_of, after}
use Rattle.rob_expand.specs.Placed.{Placed, placed_of}
use Rattle.rob_expand.specs.Count.{tree_left}

-- what is left behind an expression
abbrev pub rest_of : Option Counted → Option ℕ
rest_of None = None
rest_of (Some c) = Some c.left

-- the tokens of n entries of a list, a `,` in front of each but the first of the list
abbrev pub entries_tokens : (first : Bool) → (tokens : ℕ) → ℕ → ℕ
entries_tokens first tokens zero = 0
entries_tokens first tokens (suc n) = star 0 first + (tokens + entries_tokens false tokens n)

-- how many entries an item is
abbrev pub entry_count : Item → List ℤ → ℕ
entry_count x vs = length (extensions x.ranges vs)

-- the items of a list
abbrev pub items_left : (first : Bool) → List Item → List ℤ → ℕ → Option ℕ
items_left first [] vs room = Some room
items_left first (x ∷ xs) vs room =
    after (left_of (entries_tokens first (1 + x.behind) (entry_count x vs)) room)
    (items_left (first && entry_count x vs == 0) xs vs)

-- some expressions
abbrev pub trees_left : (limit : ℕ) → List Placed → List ℤ → ℕ → Option ℕ
trees_left limit [] vs room = Some room
trees_left limit (p ∷ ps) vs room = after (rest_of (tree_left limit p vs room)) (trees_left limit ps vs)

-- a line
abbrev pub line_left : Line → List ℤ → ℕ → Option ℕ
line_left line vs room =
    after (left_of line.base room) (λ room.
    after (trees_left line.limit (map placed_of line.trees) vs room) (items_left true line.items vs))
